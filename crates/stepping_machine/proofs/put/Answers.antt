-- `put` (src/lib.rt) keeps its contract.

use Rattle.stepping_machine.proofs.put.Goals as goal

pub returns : goal.returns
returns c = simp c.narrow.ensures
