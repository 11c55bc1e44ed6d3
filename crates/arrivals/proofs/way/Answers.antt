-- `way` (src/lib.rt) keeps its contract.
use borrow.Author.Tests.{eq-eqb, ne_eqb}
use Rattle.arrivals.proofs.way.Goals as goal

pub returns-then-source-k : goal.returns-then-source-k
returns-then-source-k c = simp (eq-eqb _ _ c.if-source-k.true)

pub returns-else-source-k : goal.returns-else-source-k
returns-else-source-k c = simp (ne_eqb _ _ c.if-source-k.false)
