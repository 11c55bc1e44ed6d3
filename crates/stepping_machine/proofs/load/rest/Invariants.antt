-- `rest` (src/load.rt) keeps its contract: its loops.
use Rattle.stepping_machine.specs.Loads.{RestIs}
use Rattle.stepping_machine.proofs.load.rest.Given as goal

abbrev pub invariant-loop-k : goal.invariant-loop-k
invariant-loop-k l = RestIs l.initial.w l.w l.m l.k
