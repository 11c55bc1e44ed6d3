-- `order_fault` (src/rules.rt) keeps its contract.
use Rattle.admission.specs.Notes.{order_by}
use Rattle.admission.proofs.Ruled.{leb-not}
use Rattle.admission.proofs.rules.order_fault.Goals as goal

pub returns-then-inside : goal.returns-then-inside
unfolding order_by
returns-then-inside c = simp (c.if-inside.true, leb-not c.args.source c.args.target)

pub returns-else-inside : goal.returns-else-inside
unfolding order_by
returns-else-inside c = simp c.if-inside.false
