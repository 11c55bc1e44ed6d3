-- `starts_past` (src/lib.rt) keeps its contract: its loops.
use Rattle.arrivals.specs.Lanes.{start_past}
use Rattle.arrivals.proofs.Stepping.{Halfway}
use Rattle.arrivals.proofs.starts_past.Given as goal

abbrev pub invariant-loop-k : goal.invariant-loop-k
invariant-loop-k l = Halfway (start_past l.source l.finish l.time) l.initial.r.at l.k l.r.at
