-- `way_on` (src/tracing.rt) keeps its contract.
use Rattle.drift.proofs.Backward.{way-none, way-some}
use Rattle.drift.proofs.tracing.way_on.Goals as goal

pub returns-then-m-eq0 : goal.returns-then-m-eq0
returns-then-m-eq0 c = let a = c.args in way-none a.tail a.d a.m c.if-m-eq0.true

pub returns-else-m-eq0 : goal.returns-else-m-eq0
returns-else-m-eq0 c = let a = c.args in way-some a.tail a.d a.m c.if-m-eq0.false c.max.ensures
