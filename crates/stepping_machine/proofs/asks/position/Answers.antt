-- `position` (src/asks.rt) keeps its contract.
use Rattle.stepping_machine.proofs.Told.{no-position, some-position}
use Rattle.stepping_machine.proofs.asks.position.Goals as goal

pub returns-then-k-lt16 : goal.returns-then-k-lt16
returns-then-k-lt16 c = some-position _ _ _ c.if-k-lt16.true (simp (c.saturating_sub.ensures, c.word-then-k-lt16.ensures.0, c.word.ensures.0))

pub returns-else-k-lt16 : goal.returns-else-k-lt16
returns-else-k-lt16 c = no-position _ _ 0 c.if-k-lt16.false
