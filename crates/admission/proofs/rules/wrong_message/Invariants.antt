-- `wrong_message` (src/rules.rt) keeps its contract: its loops.
use Rattle.admission.proofs.Ruled.{Clear}
use Rattle.admission.proofs.rules.wrong_message.Given as goal

abbrev pub invariant-loop-l : goal.invariant-loop-l
invariant-loop-l l = Clear l.sheet l.w l.v l.l
