-- `homes` (src/ways.rt) keeps its contract.
use Rattle.stepping_machine.proofs.Raising.{homes-cube, homes-flat}
use Rattle.stepping_machine.proofs.ways.homes.Goals as goal

pub note_homes-requires : goal.note_homes-requires
note_homes-requires c = (c.args.v.few_tasks, c.requires)

pub shape_of-w : goal.shape_of-w
shape_of-w c = c.note_homes.ensures.long

pub returns-then-v : goal.returns-then-v
returns-then-v c = homes-cube _ _ _ c.note_homes.ensures

pub returns-else-v : goal.returns-else-v
returns-else-v c = homes-flat _ _ c.if-v.false
