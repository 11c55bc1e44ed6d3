-- `wrong_message` (src/rules.rt) keeps its contract.
use Rattle.admission.proofs.Ruled.{clear-found, clear-more, clear_none, clear-start}
use Rattle.std.proofs.lemmas.Result.{err_from_is_err_and}
use mathlib.Core.Path.{◌∙◌, sym}
use Rattle.admission.proofs.rules.wrong_message.Goals as goal

pub loop-l-init : goal.loop-l-init
loop-l-init c = clear-start _ _ _

pub returns-in_err-at : goal.returns-in_err-at
returns-in_err-at c =
    let p = err_from_is_err_and c.from_residual.result c.from_residual.ensures.1 in
    rw (p.1, p.2) (clear-found _ _ _ _ _ _ c.loop-l.invariant c.loop-l-test.true (sym c.in_err-at.was ∙ c.at.ensures) c.link_fault.ensures)

pub loop-l-preserved : goal.loop-l-preserved
loop-l-preserved c = clear-more _ c.loop-l.invariant (sym c.in_ok-at.was ∙ c.at.ensures) c.link_fault.ensures

pub returns : goal.returns
returns c = clear_none _ _ _ _ c.loop-l.invariant c.loop-l-test.false
