-- `without_join` (src/lib.rt) keeps its contract.
use mathlib.Core.Path.{◌∙◌, ap, sym}
use Rattle.workspace.proofs.Searches.{below_at}
use Rattle.workspace.specs.Found.{found_of}
use Rattle.placing.proofs.Steps.{choice-idle, choice-rest}
use Rattle.placing.proofs.Turn.without_join.Goals as goal

pub returns-in-Some : goal.returns-in-Some
returns-in-Some c =
    let found = c.idle_on.ensures in
    let here = c.in-Some.is in
    (choice-idle _ _ _ c.requires.none_value (sym (ap found_of here) ∙ found.0), below_at 16 here found.1)

pub returns-in-None : goal.returns-in-None
returns-in-None c =
    let found = c.without_idle.ensures in
    (choice-rest _ _ _ c.requires.none_value (sym (ap found_of c.in-None.is) ∙ c.idle_on.ensures.0) found.0, found.1)
