-- `write` (src/lib.rt) keeps its contract.
use Rattle.entry_points.proofs.Planning.{plan-is}
use Rattle.entry_points.proofs.plans.write.Goals as goal

pub returns : goal.returns
returns c = plan-is _ c.plan.ensures
