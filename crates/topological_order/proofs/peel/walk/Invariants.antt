-- `walk` (src/peel.rt) keeps its contract: its loops.
use Rattle.topological_order.proofs.Turns.{WalkTo}
use Prim.Native.Nat.{◌-◌}
use Rattle.topological_order.proofs.peel.walk.Given as goal

abbrev pub invariant-loop-l : goal.invariant-loop-l
invariant-loop-l l = WalkTo l.initial.w l.k l.v l.q l.l l.w

abbrev pub decreases-loop-l : goal.decreases-loop-l
decreases-loop-l l = l.m - l.l
