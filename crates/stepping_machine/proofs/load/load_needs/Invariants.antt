-- `load_needs` (src/load.rt) keeps its contract: its loops.
use Rattle.stepping_machine.specs.Loads.{NeedsIs}
use Rattle.stepping_machine.proofs.load.load_needs.Given as goal

abbrev pub invariant-loop-t : goal.invariant-loop-t
invariant-loop-t l = NeedsIs l.sheet l.initial.w l.w l.v.front l.t
