-- `load_all` (src/load.rt) keeps its contract: its loops.
use Rattle.stepping_machine.proofs.Opening.{Going}
use Rattle.stepping_machine.proofs.load.load_all.Given as goal

abbrev pub invariant-loop-k : goal.invariant-loop-k
invariant-loop-k l = Going l.sheet l.bundle l.initial.w l.w l.v l.m l.c l.k
