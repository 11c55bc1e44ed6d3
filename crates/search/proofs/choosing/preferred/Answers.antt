-- `preferred` (src/choosing.rt) keeps its contract.
use Rattle.search.proofs.Keeping.{keep-first, keep-second}
use Rattle.search.proofs.choosing.preferred.Goals as goal

pub returns-then-is_le : goal.returns-then-is_le
returns-then-is_le c = keep-first c.requires.3 c.requires.4 c.order_of.ensures c.is_le.ensures c.if-is_le.true

pub returns-else-is_le : goal.returns-else-is_le
returns-else-is_le c = keep-second c.requires.3 c.requires.4 c.order_of.ensures c.is_le.ensures c.if-is_le.false
