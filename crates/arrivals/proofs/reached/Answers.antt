-- `reached` (src/lib.rt) keeps its contract.
use Rattle.arrivals.specs.Reach.{further}
use Rattle.arrivals.proofs.reached.Goals as goal

pub returns : goal.returns
unfolding further
returns c = λ i. record { at = c.chosen.ensures i; most = c.max.ensures i }
