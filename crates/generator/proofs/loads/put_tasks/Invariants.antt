-- `put_tasks` (src/loads.rt) keeps its contract: its loops.
use Rattle.generator.specs.Filled.{Tasked}
use Rattle.generator.proofs.loads.put_tasks.Given as goal

abbrev pub invariant-loop-i : goal.invariant-loop-i
invariant-loop-i l = Tasked l.seed l.processors l.limit l.i l.initial.w l.w l.d
