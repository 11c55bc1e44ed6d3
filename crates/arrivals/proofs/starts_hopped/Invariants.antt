-- `starts_hopped` (src/lib.rt) keeps its contract: its loops.
use Rattle.arrivals.specs.Lanes.{start_hopped}
use Rattle.arrivals.proofs.Stepping.{Halfway}
use Rattle.arrivals.proofs.starts_hopped.Given as goal

abbrev pub invariant-loop-k : goal.invariant-loop-k
invariant-loop-k l = Halfway (start_hopped l.row l.source l.finish l.cost l.unpacking) l.initial.r.at l.k l.r.at
