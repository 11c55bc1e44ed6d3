-- `begun` (src/lib.rt) keeps its contract.
use mathlib.Core.Path.{ap, ◌∙◌}
use lib.ListN.{get_or, drop}
use Rattle.std.proofs.lemmas.List.{get_or-drop, get_or-take}
use Rattle.arrivals.specs.Layout.{ends_from}
use Rattle.arrivals.proofs.begun.Goals as goal

pub returns : goal.returns
returns c =
    let own = c.args.kept.now in
    record { on = λ k h. ap (λ v. get_or v k 0) c.copy_from_slice.ensures.after ∙ get_or-take 16 (drop ends_from own) k 0 h ∙ get_or-drop ends_from own k 0 }
