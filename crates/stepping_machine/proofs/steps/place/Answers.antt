-- `place` (src/steps.rt) keeps its contract.
use Rattle.stepping_machine.specs.Words.{placed_words}
use Rattle.stepping_machine.proofs.steps.place.Goals as goal

pub returns : goal.returns
unfolding placed_words
returns c = simp (c.put-3.ensures, c.put-2.ensures, c.put.ensures)
