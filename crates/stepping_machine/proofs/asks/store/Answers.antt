-- `store` (src/asks.rt) keeps its contract.
use Rattle.stepping_machine.proofs.Told.{no_store, some-store}
use Rattle.stepping_machine.proofs.asks.store.Goals as goal

pub returns-then-k-lt16 : goal.returns-then-k-lt16
returns-then-k-lt16 c = some-store _ _ _ c.if-k-lt16.true c.word.ensures.0

pub returns-else-k-lt16 : goal.returns-else-k-lt16
returns-else-k-lt16 c = no_store _ _ 0 c.if-k-lt16.false
