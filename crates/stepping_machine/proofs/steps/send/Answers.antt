-- `send` (src/steps.rt) keeps its contract.
use Rattle.stepping_machine.specs.Words.{sent_words}
use Rattle.stepping_machine.proofs.steps.send.Goals as goal

pub returns : goal.returns
unfolding sent_words
returns c = simp (c.put.ensures, c.go_on.ensures, c.word.ensures.0)
