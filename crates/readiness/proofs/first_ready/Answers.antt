-- `first_ready` (src/lib.rt) keeps its contract.
use Rattle.readiness.proofs.Keying.{first-ready-is}
use Rattle.readiness.proofs.first_ready.Goals as goal

pub returns : goal.returns
returns c = first-ready-is c.requires.kept.ranged c.requires.keyed c.task_of.result c.task_of.ensures c.greatest_of.ensures
