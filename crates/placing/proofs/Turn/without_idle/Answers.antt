-- `without_idle` (src/lib.rt) keeps its contract.
use mathlib.Core.Path.{◌∙◌, ap, sym}
use Rattle.workspace.proofs.Searches.{below_at}
use Rattle.workspace.specs.Found.{found_of}
use Rattle.placing.proofs.Steps.{before_last, last-left}
use Rattle.placing.proofs.Turn.without_idle.Goals as goal

pub share_or_open-requires : goal.share_or_open-requires
share_or_open-requires c =
    let here = c.in-Some.is in
    let found = c.open_on.ensures in
    record { rival = c.requires; next_value = (sym (ap found_of here) ∙ found.0, below_at 16 here found.1) }

pub returns-in-Some : goal.returns-in-Some
returns-in-Some c =
    let found = c.share_or_open.ensures in
    (before_last _ _ c.args.self.now.t (sym (ap found_of c.in-Some.is) ∙ c.open_on.ensures.0) found.0, found.1)

pub returns-in-None : goal.returns-in-None
returns-in-None c =
    let found = c.last_on.ensures in
    (last-left _ _ c.args.self.now.t (sym (ap found_of c.in-None.is) ∙ c.open_on.ensures.0) found.0, found.1)
