-- `note_homes` (src/ways.rt) keeps its contract: its loops.
use Rattle.stepping_machine.specs.Loads.{NotedIs}
use Rattle.stepping_machine.proofs.ways.note_homes.Given as goal

abbrev pub invariant-loop-t : goal.invariant-loop-t
invariant-loop-t l = NotedIs l.initial.w l.w l.t
