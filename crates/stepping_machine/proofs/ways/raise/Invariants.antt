-- `raise` (src/ways.rt) keeps its contract: its loops.
use Prim.Native.Nat.{◌≤◌, max}
use Rattle.stepping_machine.specs.Loads.{RaiseIs}
use Rattle.stepping_machine.proofs.ways.raise.Given as goal

abbrev pub invariant-loop-i : goal.invariant-loop-i
invariant-loop-i l = RaiseIs l.sheet l.initial.w l.w l.v.middle l.k l.a l.i × (l.i ≤ max l.a l.e)
