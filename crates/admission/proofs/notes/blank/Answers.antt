-- `blank` (src/notes.rt) keeps its contract.
use Rattle.admission.proofs.Noted.{blank-all}
use Rattle.admission.proofs.notes.blank.Goals as goal

pub returns : goal.returns
returns c = blank-all _ _ c.requires.0 c.requires.1 c.clear_words.ensures c.clear_words-2.ensures c.clear_words-3.ensures
