-- `start_unpacked` (src/lib.rt) keeps its contract.
use native.Mathlib.Omega.{arith}
use borrow.Author.Tests.{eq-eqb, ne_eqb}
use Rattle.arrivals.specs.Lanes.{start_unpacked}
use Rattle.arrivals.proofs.start_unpacked.Goals as goal

pub returns-then-source-k : goal.returns-then-source-k
unfolding start_unpacked
returns-then-source-k c = simp (eq-eqb _ _ c.if-source-k.true)

pub returns-else-source-k : goal.returns-else-source-k
unfolding start_unpacked
returns-else-source-k c = simp (ne_eqb _ _ c.if-source-k.false) (omega (arith, c.max.ensures))
