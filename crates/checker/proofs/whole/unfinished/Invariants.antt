-- `unfinished` (src/whole.rt) keeps its contract: its loops.
use Rattle.checker.proofs.Closing.{Finished}
use Rattle.checker.proofs.whole.unfinished.Given as goal

abbrev pub invariant-loop-k : goal.invariant-loop-k
invariant-loop-k l = Finished l.w l.k
