-- `put_place` (src/lib.rt) keeps its contract.
use Rattle.schedule.specs.Layout.{place_words}
use Rattle.schedule.proofs.put_place.Goals as goal

pub returns : goal.returns
unfolding place_words
returns c = simp c.word-x.ensures.0
