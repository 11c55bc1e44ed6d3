-- `release` (src/lib.rt) keeps its contract: its loops.
use Rattle.arrivals.specs.Steps.{Released}
use Rattle.arrivals.proofs.release.Given as goal

abbrev pub invariant-loop-j : goal.invariant-loop-j
invariant-loop-j l = Released l.j l.initial.kept l.kept
