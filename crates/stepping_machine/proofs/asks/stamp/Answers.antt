-- `stamp` (src/asks.rt) keeps its contract.
use native.Mathlib.Omega.{arith}
use Rattle.stepping_machine.proofs.Told.{no-stamp, some-stamp}
use Rattle.stepping_machine.proofs.asks.stamp.Goals as goal

pub returns-then-l-word : goal.returns-then-l-word
returns-then-l-word c = some-stamp _ _ _ (omega (arith, c.if-l-word.true, c.word.ensures.0)) c.word-then-l-word.ensures.0

pub returns-else-l-word : goal.returns-else-l-word
returns-else-l-word c = no-stamp _ _ 0 (omega (arith, c.if-l-word.false, c.word.ensures.0))
