-- `is_open` (src/lib.rt) keeps its contract.
use Rattle.placing.proofs.Steps.{open_is}
use Rattle.placing.proofs.Turn.is_open.Goals as goal

pub returns : goal.returns
returns c = open_is c.args.k c.args.self.now.choosing.kept.caches.ends c.requires c.word.ensures.0
