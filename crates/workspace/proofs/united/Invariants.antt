-- `united` (src/lib.rt) keeps its contract: its loops.
use Prim.Native.Nat.{◌≤◌, max}
use Rattle.workspace.specs.Area.{UnitedIs}
use Rattle.workspace.proofs.united.Given as goal

abbrev pub invariant-loop-i : goal.invariant-loop-i
invariant-loop-i l = (l.a ≤ l.i) × (l.i ≤ max l.a l.e) × UnitedIs l.w l.a l.i l.bits
