-- `note_end` (src/recording.rt) keeps its contract.
use Rattle.drift.proofs.Noting.{noted-end, no_end}
use Rattle.drift.proofs.recording.note_end.Goals as goal

pub returns-then-x-eq1 : goal.returns-then-x-eq1
returns-then-x-eq1 c = let a = c.args in noted-end a.w.now a.ends.now a.k a.x _ _ _ c.if-x-eq1.true c.saturating_sub-t.ensures c.word.ensures.0 c.word.ensures.1 c.put.ensures

pub returns-else-x-eq1 : goal.returns-else-x-eq1
returns-else-x-eq1 c = let a = c.args in no_end a.w.now a.ends.now a.k a.x c.if-x-eq1.false
