-- `weigh` (src/lib.rt) keeps its contract.
use mathlib.Core.Path.{sym, ◌∙◌}
use Rattle.std.proofs.lemmas.Result.{err_from_is_err_and}
use Rattle.formulas.proofs.Weighs.{whole-stops, whole-read, weigh-tail, weigh-of, weigh-no}
use Rattle.formulas.proofs.weigh.Goals as goal

pub returns-in_err-whole : goal.returns-in_err-whole
returns-in_err-whole c =
    let p = err_from_is_err_and c.from_residual.result c.from_residual.ensures.1 in
    rw (p.1, p.2) (whole-stops _ _ _ _ c.in_err-whole.ensures.cases c.sum.ensures)

pub returns-then-whole-text : goal.returns-then-whole-text
returns-then-whole-text c = rw c.outside.ensures (weigh-tail _ _ _ _ (whole-read _ _ _ _ _ c.in_ok-whole.ensures.cases c.in_ok-whole.ensures.variant c.sum.ensures) c.if-whole-text.true)

pub returns-then-is_weight : goal.returns-then-is_weight
returns-then-is_weight c = weigh-of _ _ _ _ (whole-read _ _ _ _ _ c.in_ok-whole.ensures.cases c.in_ok-whole.ensures.variant c.sum.ensures) c.if-whole-text.false (sym c.is_weight.ensures ∙ c.if-is_weight.true)

pub returns-else-is_weight : goal.returns-else-is_weight
returns-else-is_weight c =
    rw c.at.ensures
    (weigh-no _ _ _ _ (whole-read _ _ _ _ _ c.in_ok-whole.ensures.cases c.in_ok-whole.ensures.variant c.sum.ensures) c.if-whole-text.false (sym c.is_weight.ensures ∙ c.if-is_weight.false))
