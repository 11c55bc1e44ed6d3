-- `note` (src/notes.rt) keeps its contract.
use Rattle.admission.proofs.Noted.{note-new, note-old}
use Rattle.admission.proofs.notes.note.Goals as goal

pub returns-then-word-eq0 : goal.returns-then-word-eq0
returns-then-word-eq0 c = note-new _ _ _ _ _ _ c.word.ensures.0 c.if-word-eq0.true c.put.ensures

pub returns-else-word-eq0 : goal.returns-else-word-eq0
returns-else-word-eq0 c = note-old _ _ _ _ _ _ c.word.ensures.0 c.if-word-eq0.false c.put-else-word-eq0.ensures
