-- `put_block` (src/writing.rt) keeps its contract.
use Rattle.search.proofs.Fronts.{block-done}
use Rattle.search.proofs.writing.put_block.Goals as goal

pub returns : goal.returns
returns c = block-done _ _ _ _ _ _ _ _ _ _ _ _ _ c.requires.0.links c.put_messages-a.ensures c.put_pair-b.ensures c.put_messages.ensures
