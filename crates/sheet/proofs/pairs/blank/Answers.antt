-- `blank` (src/pairs.rt) keeps its contract.
use Rattle.sheet.proofs.Fills.{blanked}
use Rattle.sheet.proofs.pairs.blank.Goals as goal

pub returns : goal.returns
returns c = blanked c.clear_words.ensures
