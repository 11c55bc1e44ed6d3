-- `before_receive` (src/tracing.rt) keeps its contract.
use Rattle.drift.proofs.Backward.{got-back}
use Rattle.drift.proofs.tracing.before_receive.Goals as goal

pub returns : goal.returns
returns c = let a = c.args in got-back a.w.now a.k a.p a.i c.word.ensures.0 c.word-2.ensures.0 c.word-3.ensures.0 c.max-m.ensures c.go_back.ensures c.put.ensures
