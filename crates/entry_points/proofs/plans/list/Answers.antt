-- `list` (src/lib.rt) keeps its contract.
use Rattle.entry_points.proofs.Planning.{list-is}
use Rattle.entry_points.proofs.plans.list.Goals as goal

pub returns : goal.returns
returns c = list-is _ c.list.ensures
