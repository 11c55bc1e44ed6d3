-- `put16` (src/lib.rt) keeps its contract.
use Rattle.numbers.proofs.Laws.{stored-two}
use Rattle.numbers.proofs.put16.Goals as goal

pub returns : goal.returns
returns c = stored-two _ _ _ _ c.requires
