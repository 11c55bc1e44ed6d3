-- `open_on` (src/lib.rt) keeps its contract.
use mathlib.Core.Path.{◌∙◌, sym}
use native.Mathlib.Omega.{arith}
use Rattle.placing.proofs.Steps.{none-opens}
use Rattle.placing.proofs.Turn.open_on.Goals as goal

pub returns : goal.returns
returns c =
    let turn = c.args.self.now in
    let n = c.processors.ensures in
    (none-opens turn.w.now turn.kept.now turn.t turn.choosing.kept n.0 (omega (arith, n.1)) (sym c.some_closed.ensures ∙ c.if-some_closed.false), tt)
