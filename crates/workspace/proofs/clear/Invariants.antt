-- `clear` (src/lib.rt) keeps its contract: its loops.
use Prim.Native.Nat.{◌-◌, ◌≤◌}
use lib.ListN.{length}
use Rattle.workspace.specs.Area.{ClearIs}
use Rattle.workspace.proofs.clear.Given as goal

abbrev pub invariant-loop-work : goal.invariant-loop-work
invariant-loop-work l = (l.i ≤ length l.initial.work) × ClearIs l.initial.work l.work 0 l.i

abbrev pub decreases-loop-work : goal.decreases-loop-work
decreases-loop-work l = length l.initial.work - l.i
