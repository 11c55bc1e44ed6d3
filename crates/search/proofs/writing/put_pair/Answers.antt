-- `put_pair` (src/writing.rt) keeps its contract.
use Rattle.search.proofs.Fronts.{pair-done}
use Rattle.search.proofs.writing.put_pair.Goals as goal

pub returns : goal.returns
returns c = pair-done _ _ _ _ c.requires.0
