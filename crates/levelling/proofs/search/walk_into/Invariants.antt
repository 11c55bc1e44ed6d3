-- `walk_into` (src/search.rt) keeps its contract: its loops.
use Rattle.levelling.proofs.Spreads.{SpreadTo}
use Prim.Native.Nat.{◌-◌}
use Rattle.levelling.proofs.search.walk_into.Given as goal

abbrev pub invariant-loop-l : goal.invariant-loop-l
invariant-loop-l l = SpreadTo l.initial.w l.goal l.v l.q l.l l.w

abbrev pub decreases-loop-l : goal.decreases-loop-l
decreases-loop-l l = l.m - l.l
