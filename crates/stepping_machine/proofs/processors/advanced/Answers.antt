-- `advanced` (src/processors.rt) keeps its contract.

use Rattle.stepping_machine.proofs.processors.advanced.Goals as goal

pub returns : goal.returns
returns c = simp c.max.ensures
