-- `share_or_open` (src/lib.rt) keeps its contract.
use mathlib.Core.Path.{◌∙◌, ap, sym}
use Rattle.workspace.proofs.Searches.{below_at}
use Rattle.workspace.specs.Found.{found_of}
use Rattle.placing.proofs.Steps.{opened-next, shared}
use Rattle.placing.proofs.Turn.share_or_open.Goals as goal

pub returns-in-Some : goal.returns-in-Some
returns-in-Some c =
    let found = c.share_on.ensures in
    let here = c.in-Some.is in
    (shared _ _ c.args.self.now.t c.requires.next_value.0 (sym (ap found_of here) ∙ found.0), below_at 16 here found.1)

pub returns-in-None : goal.returns-in-None
returns-in-None c = (opened-next _ _ c.args.self.now.t c.requires.next_value.0 (sym (ap found_of c.in-None.is) ∙ c.share_on.ensures.0), c.requires.next_value.1)
