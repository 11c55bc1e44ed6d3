-- `key` (src/walking.rt) keeps its contract: its loops.
use Rattle.search.proofs.Steps.{Leads}
use Rattle.search.proofs.walking.key.Given as goal

abbrev pub invariant-loop-l : goal.invariant-loop-l
invariant-loop-l l = Leads l.sheet l.v l.t l.l
