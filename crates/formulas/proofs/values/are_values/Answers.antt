-- `are_values` (src/values.rt) keeps its contract.
use borrow.Author.Tests.{le-leb, lt-leb}
use Rattle.formulas.proofs.values.are_values.Goals as goal

pub returns-then-a-le-GREATEST : goal.returns-then-a-le-GREATEST
returns-then-a-le-GREATEST c = simp (le-leb _ _ c.if-a-le-GREATEST.true)

pub returns-else-a-le-GREATEST : goal.returns-else-a-le-GREATEST
returns-else-a-le-GREATEST c = simp (lt-leb _ _ c.if-a-le-GREATEST.false)
