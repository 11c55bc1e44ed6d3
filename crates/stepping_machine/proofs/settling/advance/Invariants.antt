-- `advance` (src/settling.rt) keeps its contract: its loops.
use Rattle.stepping_machine.proofs.Going.{Advancing}
use Rattle.stepping_machine.proofs.settling.advance.Given as goal

abbrev pub invariant-loop-n : goal.invariant-loop-n
invariant-loop-n l = Advancing l.initial.w l.w l.n
