-- `round` (src/settling.rt) keeps its contract: its loops.
use Rattle.stepping_machine.proofs.Going.{Rounding}
use Prim.Native.Nat.{◌≤◌}
use Rattle.stepping_machine.proofs.settling.round.Given as goal

abbrev pub invariant-loop-k : goal.invariant-loop-k
invariant-loop-k l = (Rounding l.initial.w l.w l.k l.n) × (l.count ≤ 16)
