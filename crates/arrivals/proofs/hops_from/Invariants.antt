-- `hops_from` (src/lib.rt) keeps its contract: its loops.
use Rattle.sheet.specs.Hops.{hops}
use Rattle.arrivals.proofs.Stepping.{Halfway}
use Rattle.arrivals.proofs.hops_from.Given as goal

abbrev pub invariant-loop-k : goal.invariant-loop-k
invariant-loop-k l = Halfway (λ j x. hops l.source j) l.initial.r.at l.k l.r.at
