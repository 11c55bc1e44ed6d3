-- `ways` (src/ways.rt) keeps its contract.
use mathlib.Core.Path.{refl}
use Rattle.stepping_machine.proofs.Raising.{ways-cube, ways-flat}
use Rattle.stepping_machine.proofs.ways.ways.Goals as goal

pub raise-requires : goal.raise-requires
raise-requires c = let s = c.requires in (s.0, s.1)

pub shape_of-w : goal.shape_of-w
shape_of-w c = c.raise.ensures.long

pub returns-then-v : goal.returns-then-v
returns-then-v c = ways-cube _ _ _ _ _ _ _ c.requires.2 c.if-v.true c.raise.ensures

pub returns-else-v : goal.returns-else-v
returns-else-v c = ways-flat _ _ _ _ _ _ _ c.requires.2 c.if-v.false refl
