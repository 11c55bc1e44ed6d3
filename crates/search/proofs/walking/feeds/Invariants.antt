-- `feeds` (src/walking.rt) keeps its contract: its loops.
use Rattle.search.proofs.Steps.{Feeds}
use Rattle.search.proofs.walking.feeds.Given as goal

abbrev pub invariant-loop-l : goal.invariant-loop-l
invariant-loop-l l = Feeds l.sheet l.v l.code l.own l.t l.l
