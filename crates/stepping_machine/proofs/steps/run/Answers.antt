-- `run` (src/steps.rt) keeps its contract.
use Rattle.stepping_machine.specs.Words.{ran_words}
use Rattle.stepping_machine.proofs.steps.run.Goals as goal

pub returns : goal.returns
unfolding ran_words
returns c = simp (c.go_on.ensures, c.word-need.ensures.0)
