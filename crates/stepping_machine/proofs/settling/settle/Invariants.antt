-- `settle` (src/settling.rt) keeps its contract: its loops.
use Rattle.stepping_machine.proofs.Going.{Rounds}
use Rattle.stepping_machine.proofs.settling.settle.Given as goal

abbrev pub invariant-loop : goal.invariant-loop
invariant-loop l = Rounds l.initial.w l.w l.counter
