-- `freed` (src/judge.rt) keeps its contract.
use Rattle.admission.proofs.Admits.{freed-none, freed-right, freed-wrong}
use Rattle.admission.proofs.judge.freed.Goals as goal

pub returns-then-met-outline : goal.returns-then-met-outline
returns-then-met-outline c = freed-none _ _ _ _ _ _ c.if-met-outline.true

pub shape_of-w-in-Some : goal.shape_of-w-in-Some
shape_of-w-in-Some c = c.wrong_release.ensures.kept.long

pub returns-in-Some : goal.returns-in-Some
returns-in-Some c =
    rw c.at.ensures (freed-wrong _ _ _ _ _ _ _ _ c.wrong_release.ensures _ c.in-Some.is)

pub shape_of-w-in-None : goal.shape_of-w-in-None
shape_of-w-in-None c = c.wrong_release.ensures.kept.long

pub returns-in-None : goal.returns-in-None
returns-in-None c = freed-right _ _ _ _ _ _ _ _ c.wrong_release.ensures c.in-None.is
