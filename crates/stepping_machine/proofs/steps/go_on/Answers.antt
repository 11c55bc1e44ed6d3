-- `go_on` (src/steps.rt) keeps its contract.
use Rattle.stepping_machine.specs.Words.{stepped_words}
use Rattle.stepping_machine.proofs.steps.go_on.Goals as goal

pub returns : goal.returns
unfolding stepped_words
returns c = simp (c.place.ensures, c.stepped-p.ensures, c.processor.ensures.0, c.processor.ensures.1, c.processor.ensures.2)
