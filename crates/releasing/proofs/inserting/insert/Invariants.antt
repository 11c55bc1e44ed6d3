-- `insert` (src/inserting.rt) keeps its contract: its loops. `g` is the loop, `z` the size of the command that was read.
use Prim.Native.Nat.{◌-◌}
use Rattle.releasing.proofs.Insertions.{Inserted}
use Rattle.releasing.proofs.inserting.insert.Given as goal

abbrev pub invariant-loop-at : goal.invariant-loop-at
invariant-loop-at l = Inserted l.bundle l.w l.initial.out l.initial.to l.out l.at l.k l.r l.to

abbrev pub decreases-loop-at : goal.decreases-loop-at
decreases-loop-at l = l.end - l.at
