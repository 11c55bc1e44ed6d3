-- `runs_task` (src/standings.rt) keeps its contract: its loops.
use Rattle.stepping_machine.specs.Words.{first_in}
use Rattle.better.proofs.Running.{Passed}
use Rattle.better.proofs.standings.runs_task.Given as goal

abbrev pub invariant-loop-i : goal.invariant-loop-i
invariant-loop-i l = Passed l.w (first_in l.w l.k) l.i
