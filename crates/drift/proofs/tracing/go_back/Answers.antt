-- `go_back` (src/tracing.rt) keeps its contract.
use Rattle.drift.proofs.Backward.{gone-back}
use Rattle.drift.proofs.tracing.go_back.Goals as goal

pub returns : goal.returns
returns c = let a = c.args in gone-back a.w.now a.k a.p a.way c.put.ensures c.put-2.ensures
