-- `rules` (src/judge.rt) keeps its contract.
use mathlib.Core.Path.{◌∙◌}
use native.Mathlib.Omega.{arith}
use Rattle.admission.proofs.Admits.{rule-once, rule-rest}
use Rattle.admission.proofs.judge.rules.Goals as goal

pub messages-requires : goal.messages-requires
messages-requires c = omega (arith, c.requires, c.note_all-met.ensures.kept.long)

pub shape_of-w-in-Some : goal.shape_of-w-in-Some
shape_of-w-in-Some c = c.note_all-met.ensures.kept.long

pub returns-in-Some : goal.returns-in-Some
returns-in-Some c =
    rw c.at.ensures (rule-once _ _ _ _ _ _ _ c.note_all-met.ensures _ c.not_once.ensures _ c.in-Some.is)

pub shape_of-w-in-None : goal.shape_of-w-in-None
shape_of-w-in-None c = c.messages.ensures.kept.long ∙ c.note_all-met.ensures.kept.long

pub returns-in-None : goal.returns-in-None
returns-in-None c = rule-rest _ _ _ _ _ _ _ c.note_all-met.ensures _ c.not_once.ensures _ _ c.in-None.is c.messages.ensures
