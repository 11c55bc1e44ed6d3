-- `choice_of` (src/lib.rt) keeps its contract.
use mathlib.Core.Path.{◌∙◌, ap, sym}
use Rattle.arrivals.proofs.Walks.{kept-arrived}
use Rattle.workspace.proofs.Searches.{below_at}
use Rattle.workspace.specs.Found.{found_of}
use Rattle.placing.proofs.Steps.{choice-join}
use Rattle.placing.proofs.choice_of.Goals as goal

pub ready_arrival-a-requires : goal.ready_arrival-a-requires
ready_arrival-a-requires c = record { arrived = kept-arrived c.requires.choosing.0.kept c.args.t c.requires.choosing.0.task; chained = (c.requires.choosing.0.kept.caches.inward, c.requires.choosing.0.early) }

pub without_join-requires : goal.without_join-requires
without_join-requires c = record { rival = c.rival_of-rival.ensures; none_value = sym (ap found_of c.in-None.is) ∙ c.join_on.ensures.0 }

pub returns-in-Some : goal.returns-in-Some
returns-in-Some c =
    let found = c.join_on.ensures in
    let here = c.in-Some.is in
    (choice-join _ _ _ (sym (ap found_of here) ∙ found.0), below_at 16 here found.1)
