-- `low_key` (src/lib.rt) keeps its contract.
use Rattle.placing.specs.Ranks.{low_key}
use Rattle.placing.proofs.low_key.Goals as goal

pub returns-then-test : goal.returns-then-test
unfolding low_key
returns-then-test c = rw c.if-test.true

pub returns-else-test : goal.returns-else-test
returns-else-test c = rw c.if-test.false
