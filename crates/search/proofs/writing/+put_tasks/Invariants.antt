-- `put_tasks` (src/writing.rt) keeps its contract.
use Rattle.search.proofs.writing.+put_tasks.Given as goal

abbrev pub decreases-put_tasks : goal.decreases-put_tasks
decreases-put_tasks l = l.j
