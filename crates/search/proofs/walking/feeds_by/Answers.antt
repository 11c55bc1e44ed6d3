-- `feeds_by` (src/walking.rt) keeps its contract.
use native.Mathlib.Omega.{arith}
use Rattle.search.proofs.Steps.{feed-not, feed-by}
use Rattle.search.proofs.walking.feeds_by.Goals as goal

pub returns-then-end_of-t : goal.returns-then-end_of-t
returns-then-end_of-t c = feed-not _ _ _ _ _ _ _ c.requires.1 c.end_of.ensures (λ q. omega (arith, c.if-end_of-t.true))

pub returns : goal.returns
returns c = feed-by _ _ _ _ _ _ _ _ _ c.requires.1 c.end_of.ensures (omega (arith, c.if-end_of-t.false)) c.end_of-to.ensures c.stands.ensures
