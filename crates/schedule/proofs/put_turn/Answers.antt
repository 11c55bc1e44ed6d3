-- `put_turn` (src/lib.rt) keeps its contract.
use Rattle.schedule.specs.Layout.{turn_words}
use Rattle.schedule.proofs.put_turn.Goals as goal

pub returns : goal.returns
unfolding turn_words
returns c = simp c.word-x.ensures.0
