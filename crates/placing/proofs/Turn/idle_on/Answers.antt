-- `idle_on` (src/lib.rt) keeps its contract.
use mathlib.Core.Path.{◌∙◌, sym}
use Rattle.placing.proofs.Steps.{none-idle}
use Rattle.placing.proofs.Turn.idle_on.Goals as goal

pub returns : goal.returns
returns c =
    let turn = c.args.self.now in
    (none-idle turn.w.now turn.kept.now turn.t turn.choosing turn.arrival.0 c.due_from-d.ensures c.opened.ensures.0 (sym c.may_be_idle.ensures ∙ c.if-may_be_idle.false), tt)
