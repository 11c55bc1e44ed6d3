-- `start_past` (src/lib.rt) keeps its contract.
use lib.Dec.{eqb}
use native.Mathlib.Omega.{arith}
use Rattle.folds.proofs.Tests.{pick-le}
use Rattle.arrivals.specs.Lanes.{start_past}
use Rattle.arrivals.proofs.start_past.Goals as goal

pub overflow_add-finish : goal.overflow_add-finish
overflow_add-finish c = let a = c.args in record { fits = omega (arith, c.way.ensures, pick-le (eqb a.source a.k) 0 a.time a.time (omega arith) (omega arith)) }

pub returns : goal.returns
unfolding start_past
returns c = simp (c.max.ensures, c.way.ensures)
