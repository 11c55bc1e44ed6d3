-- `claim` (src/lib.rt) keeps its contract: its loops.
use Prim.Native.Nat.{◌<◌}
use mathlib.Core.Path.{◌≡◌}
use Rattle.planner.specs.Schedule.{finish_of}
use Rattle.folds.specs.Folds.{greatest}
use Rattle.schedule.specs.Layout.{schedule_in}
use Rattle.schedule.proofs.claim.Given as goal

abbrev pub invariant-loop-t : goal.invariant-loop-t
invariant-loop-t l = (l.last ≡ greatest l.t (finish_of (schedule_in l.w))) × (l.last < 4294967296)
