-- `hand_over` (src/start.rt) keeps its contract.
use mathlib.Core.Path.{◌∙◌}
use native.Mathlib.Omega.{arith}
use Rattle.stepping_machine.proofs.Starting.{handed}
use Rattle.stepping_machine.proofs.start.hand_over.Goals as goal

pub copy-requires-2 : goal.copy-requires-2
copy-requires-2 c = (omega arith, omega (arith, c.requires.0, c.requires.3), omega (arith, c.requires.1, c.requires.3, c.copy.ensures.long))

pub copy-requires-3 : goal.copy-requires-3
copy-requires-3 c = (omega arith, omega (arith, c.requires.0, c.requires.4), omega (arith, c.requires.1, c.requires.4, c.copy.ensures.long, c.copy-2.ensures.long))

pub shape_of-w : goal.shape_of-w
shape_of-w c = c.copy-3.ensures.long ∙ c.copy-2.ensures.long ∙ c.copy.ensures.long

pub returns : goal.returns
returns c = handed _ _ _ _ _ _ _ _ c.requires.2 c.requires.3 c.copy.ensures c.copy-2.ensures c.copy-3.ensures
