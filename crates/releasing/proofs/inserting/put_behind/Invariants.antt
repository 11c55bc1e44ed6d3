-- `put_behind` (src/inserting.rt) keeps its contract: its loops. `g` is the loop.
use Rattle.releasing.proofs.Emptying.{Emptying}
use Rattle.releasing.proofs.inserting.put_behind.Given as goal

abbrev pub invariant-loop-left : goal.invariant-loop-left
invariant-loop-left l = Emptying l.w l.note l.initial.out l.start l.out l.at l.left

abbrev pub decreases-loop-left : goal.decreases-loop-left
decreases-loop-left l = l.left
