-- `level` (src/open.rt) keeps its contract.
use Rattle.levelling.proofs.Opens.{open-circle, open-levels}
use Rattle.levelling.proofs.open.level.Goals as goal

pub shape_of-w-in-Some : goal.shape_of-w-in-Some
shape_of-w-in-Some c = c.levels.ensures.kept.long

pub returns-in-Some : goal.returns-in-Some
returns-in-Some c =
    rw c.at.ensures (open-circle c.args.w.now _ _ c.requires c.levels.ensures _ c.in-Some.is)

pub shape_of-w-in-None : goal.shape_of-w-in-None
shape_of-w-in-None c = c.levels.ensures.kept.long

pub returns-in-None : goal.returns-in-None
returns-in-None c = open-levels c.args.w.now _ _ c.requires c.levels.ensures c.in-None.is
