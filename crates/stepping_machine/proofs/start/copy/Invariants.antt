-- `copy` (src/start.rt) keeps its contract: its loops.
use Prim.Native.Nat.{◌≤◌}
use Rattle.stepping_machine.specs.Starts.{CopyIs}
use Rattle.stepping_machine.proofs.start.copy.Given as goal

abbrev pub invariant-loop-i : goal.invariant-loop-i
invariant-loop-i l = CopyIs l.from l.initial.w l.w l.a l.i × (l.i ≤ l.e)
