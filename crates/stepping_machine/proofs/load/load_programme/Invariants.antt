-- `load_programme` (src/load.rt) keeps its contract: its loops. `d` is behind the command that was decoded.
use Rattle.stepping_machine.proofs.Loading.{Loading}
use Prim.Native.Nat.{◌-◌}
use Rattle.stepping_machine.proofs.load.load_programme.Given as goal

abbrev pub invariant-loop-from : goal.invariant-loop-from
invariant-loop-from l = Loading l.sheet l.bundle l.initial.w l.w l.v l.o l.e l.a l.from l.to l.store l.highest

abbrev pub decreases-loop-from : goal.decreases-loop-from
decreases-loop-from l = l.e - l.from
