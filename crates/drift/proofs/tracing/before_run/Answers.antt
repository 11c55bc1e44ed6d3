-- `before_run` (src/tracing.rt) keeps its contract.
use Rattle.drift.proofs.Backward.{ran-back}
use Rattle.drift.proofs.tracing.before_run.Goals as goal

pub returns : goal.returns
returns c = let a = c.args in ran-back a.w.now a.k a.p a.work c.word.ensures.0 c.go_back.ensures
