-- `not_once` (src/rules.rt) keeps its contract: its loops.
use Rattle.admission.proofs.Ruled.{Onces}
use Rattle.admission.proofs.rules.not_once.Given as goal

abbrev pub invariant-loop-t : goal.invariant-loop-t
invariant-loop-t l = Onces l.w l.t
