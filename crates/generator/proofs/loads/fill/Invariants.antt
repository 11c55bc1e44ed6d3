-- `fill` (src/loads.rt) keeps its contract: its loops.
use Rattle.generator.specs.Filled.{Trying}
use Rattle.generator.proofs.loads.fill.Given as goal

abbrev pub invariant-loop-j : goal.invariant-loop-j
invariant-loop-j l = Trying l.seed l.tasks l.processors l.limit l._j l.initial.w l.w l.d
