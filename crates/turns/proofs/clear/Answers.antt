-- `clear` (src/lib.rt) keeps its contract.
use native.Mathlib.Omega.{arith}
use lib.ListN.{length-set}
use Rattle.turns.proofs.Emptying.{emptied}
use Rattle.turns.proofs.clear.Goals as goal

pub bounds-w-4368 : goal.bounds-w-4368
bounds-w-4368 c = omega (arith, c.clear_tables.ensures.only.long, c.requires.long)

pub bounds-w-4369 : goal.bounds-w-4369
bounds-w-4369 c = simp length-set (omega (arith, c.clear_tables.ensures.only.long, c.requires.long))

pub shape_of-w : goal.shape_of-w
shape_of-w c = simp length-set c.clear_tables.ensures.only.long

pub returns : goal.returns
returns c = emptied c.requires c.clear_tables.ensures (omega arith)
