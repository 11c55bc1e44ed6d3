-- `starts_unpacked` (src/lib.rt) keeps its contract: its loops.
use Rattle.arrivals.specs.Lanes.{start_unpacked}
use Rattle.arrivals.proofs.Stepping.{Halfway}
use Rattle.arrivals.proofs.starts_unpacked.Given as goal

abbrev pub invariant-loop-k : goal.invariant-loop-k
invariant-loop-k l = Halfway (start_unpacked l.source l.reach l.unpacking) l.initial.r.at l.k l.r.at
