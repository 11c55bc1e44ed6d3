-- `before_send` (src/tracing.rt) keeps its contract.
use Rattle.drift.proofs.Backward.{sent_back_lem}
use Rattle.drift.proofs.tracing.before_send.Goals as goal

pub returns : goal.returns
returns c = let a = c.args in sent_back_lem a.w.now a.k a.p a.d a.i c.word.ensures.0 c.word-2.ensures.0 c.way_on-way.ensures c.go_back.ensures c.put.ensures
