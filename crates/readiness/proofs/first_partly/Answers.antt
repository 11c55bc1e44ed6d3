-- `first_partly` (src/lib.rt) keeps its contract.
use Rattle.readiness.proofs.Keying.{first-partly-is}
use Rattle.readiness.proofs.first_partly.Goals as goal

pub returns : goal.returns
returns c = first-partly-is c.requires.kept.ranged c.requires.keyed c.task_of.result c.task_of.ensures c.greatest_of.ensures
