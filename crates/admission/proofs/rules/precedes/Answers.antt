-- `precedes` (src/rules.rt) keeps its contract.
use Rattle.admission.specs.Notes.{ahead}
use borrow.Author.Tests.{eq-eqb, ne_eqb}
use Rattle.admission.proofs.rules.precedes.Goals as goal

pub returns-then-x-y : goal.returns-then-x-y
unfolding ahead
returns-then-x-y c = simp (eq-eqb _ _ c.if-x-y.true)

pub returns-else-x-y : goal.returns-else-x-y
unfolding ahead
returns-else-x-y c = simp (ne_eqb _ _ c.if-x-y.false)
