-- The readers of an atom, a product and a sum (src/lib.rt), which call each other, keep their contracts. A call either stays at the same number of parentheses that may
-- be opened and goes from sum to product to atom, or lowers that number.
use Prim.Native.Nat.{◌-◌}
use native.Mathlib.Omega.{arith}
use mathlib.Core.Path.{sym, subst, ◌∙◌}
use Rattle.std.proofs.lemmas.Result.{err_from_is_err_and}
use Rattle.formulas.specs.Parts.{AtomIs}
use Rattle.formulas.proofs.Atoms.{atom-full, group-is, group-stops}
use Rattle.formulas.proofs.Products.{multiplying-none, product-stops, product-read, product-more}
use Rattle.formulas.proofs.Sums.{summing-none, sum-stops, sum-read, sum_more}
use Rattle.formulas.proofs.+atom_product_sum.Goals as goal

pub atom-returns-then-room-eq0 : goal.atom-returns-then-room-eq0
atom-returns-then-room-eq0 t c = atom-full _ _ _ (sym c.stands.ensures ∙ c.if-stands.true) c.if-room-eq0.true

pub atom-returns-in_err-sum : goal.atom-returns-in_err-sum
atom-returns-in_err-sum t c =
    let p = err_from_is_err_and c.from_residual.result c.from_residual.ensures.1 in
    rw (p.1, p.2)
    (group-stops _ c.args.letters.now _ _ (c.args.room - 1) (sym c.stands.ensures ∙ c.if-stands.true) (omega (arith, c.if-room-eq0.false)) _ c.in_err-sum.ensures)

pub atom-returns-in_ok-sum : goal.atom-returns-in_ok-sum
atom-returns-in_ok-sum t c =
    let a = c.args in
    subst (AtomIs a.text.now a.letters.now a.at a.room) (sym c.closed.ensures)
    (group-is _ _ _ _ (a.room - 1) (sym c.stands.ensures ∙ c.if-stands.true) (omega (arith, c.if-room-eq0.false)) _ c.in_ok-sum.ensures)

pub atom-returns-else-stands : goal.atom-returns-else-stands
atom-returns-else-stands t c = c.simple.ensures c.args.room

pub product-loop-part-init : goal.product-loop-part-init
product-loop-part-init t c = multiplying-none _ _ _ _

pub product-returns-in_err-part : goal.product-returns-in_err-part
product-returns-in_err-part t c =
    let p = err_from_is_err_and c.from_residual.result c.from_residual.ensures.1 in
    rw (p.1, p.2) (product-stops _ c.loop-part.invariant c.in_err-part.ensures)

pub product-returns-then-not-stands : goal.product-returns-then-not-stands
product-returns-then-not-stands t c = product-read _ _ _ c.loop-part.invariant c.in_ok-part.ensures c.multiplied-value.ensures (sym c.stands.ensures ∙ c.if-not-stands.true)

pub product-loop-part-preserved : goal.product-loop-part-preserved
product-loop-part-preserved t c = product-more _ _ _ c.loop-part.invariant c.in_ok-part.ensures c.multiplied-value.ensures (sym c.stands.ensures ∙ c.if-not-stands.false)

pub sum-loop-part-init : goal.sum-loop-part-init
sum-loop-part-init t c = summing-none _ _ _ _

pub sum-returns-in_err-part : goal.sum-returns-in_err-part
sum-returns-in_err-part t c =
    let p = err_from_is_err_and c.from_residual.result c.from_residual.ensures.1 in
    rw (p.1, p.2) (sum-stops _ c.loop-part.invariant c.in_err-part.ensures)

pub sum-returns-then-not-stands : goal.sum-returns-then-not-stands
sum-returns-then-not-stands t c = sum-read _ _ _ c.loop-part.invariant c.in_ok-part.ensures c.added-value.ensures (sym c.stands.ensures ∙ c.if-not-stands.true)

pub sum-loop-part-preserved : goal.sum-loop-part-preserved
sum-loop-part-preserved t c = sum_more _ _ _ c.loop-part.invariant c.in_ok-part.ensures c.added-value.ensures (sym c.stands.ensures ∙ c.if-not-stands.false)
