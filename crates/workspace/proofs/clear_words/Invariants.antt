-- `clear_words` (src/lib.rt) keeps its contract: its loops.
use Rattle.workspace.proofs.Clearing.{Clearing}
use Rattle.workspace.proofs.clear_words.Given as goal

abbrev pub invariant-loop-i : goal.invariant-loop-i
invariant-loop-i l = Clearing l.initial.w l.w l.a l.e l.i
