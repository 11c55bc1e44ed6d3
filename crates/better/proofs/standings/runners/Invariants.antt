-- `runners` (src/standings.rt) keeps its contract: its loops.
use Rattle.better.proofs.Running.{Counted}
use Rattle.better.proofs.standings.runners.Given as goal

abbrev pub invariant-loop-k : goal.invariant-loop-k
invariant-loop-k l = Counted l.w l.k l.n
