-- `is_placed` (src/lib.rt) keeps its contract.
use Rattle.planner.specs.Schedule.{placed}
use Rattle.readiness.proofs.is_placed.Goals as goal

pub returns : goal.returns
unfolding placed
returns c = rw c.place.ensures.0
