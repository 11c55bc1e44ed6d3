-- `put_bundle` (src/writing.rt) keeps its contract.
use Rattle.search.proofs.Programmes.{bundle-done}
use Rattle.search.proofs.writing.put_bundle.Goals as goal

pub returns : goal.returns
returns c = bundle-done _ _ _ _ _ _ _ _ _ _ c.requires.1 c.requires.2 c.put_programmes-q.ensures c.put32.ensures
