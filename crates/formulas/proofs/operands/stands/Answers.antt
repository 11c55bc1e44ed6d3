-- `stands` (src/operands.rt) keeps its contract.
use borrow.Author.Tests.{lt-ltb, le-ltb}
use Rattle.formulas.proofs.operands.stands.Goals as goal

pub returns-then-at-text : goal.returns-then-at-text
returns-then-at-text c = simp (lt-ltb _ _ c.if-at-text.true)

pub returns-else-at-text : goal.returns-else-at-text
returns-else-at-text c = simp (le-ltb _ _ c.if-at-text.false)
