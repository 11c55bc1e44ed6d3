-- `least` (src/plans.rt) keeps its contract.
use Rattle.entry_points.proofs.Planning.{least-is}
use Rattle.entry_points.proofs.plans.least.Goals as goal

pub returns : goal.returns
returns c = least-is _ c.least.ensures
