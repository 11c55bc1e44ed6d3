-- `note_step` (src/recording.rt) keeps its contract.
use Rattle.drift.proofs.Noting.{note-put, note-same, choice-as}
use Rattle.drift.proofs.recording.note_step.Goals as goal

pub returns-then-step : goal.returns-then-step
returns-then-step c = (choice-as c.if-step.true c.step.ensures, note-put c.requires _ c.if-step.true _ c.word-x.ensures.0 c.word.ensures.0 c.step.ensures c.put.ensures c.note_end.ensures)

pub returns-else-step : goal.returns-else-step
returns-else-step c = (choice-as c.if-step.false c.step.ensures, note-same _ c.if-step.false c.step.ensures)
