-- `open_programme` (src/load.rt) keeps its contract.
use Rattle.stepping_machine.specs.Words.{opened_words}
use Rattle.stepping_machine.proofs.load.open_programme.Goals as goal

pub returns : goal.returns
unfolding opened_words
returns c = simp (c.put-3.ensures, c.put-2.ensures, c.put.ensures)
