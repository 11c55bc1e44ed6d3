-- `number` (src/operands.rt) keeps its contract.
use lib.ListN.{get_or}
use native.Mathlib.Omega.{arith}
use mathlib.Core.Path.{sym, ◌∙◌}
use Rattle.formulas.proofs.Bytes.{digit-true, digit-range}
use Rattle.formulas.proofs.Counts.{counting-none, counting_more, bounded, number_read}
use Rattle.formulas.proofs.operands.number.Goals as goal

pub loop-value-init : goal.loop-value-init
loop-value-init c = counting-none _ _ c.requires

pub digit_at-requires : goal.digit_at-requires
digit_at-requires c = c.loop-value.invariant.later

pub overflow_mul-value : goal.overflow_mul-value
overflow_mul-value c = omega (arith, bounded c.loop-value.invariant)

pub bounds-text-at : goal.bounds-text-at
bounds-text-at c =
    let a = c.args in
    (digit-true a.text.now a.from c.loop-value.at (sym c.digit_at.ensures ∙ c.loop-value-test.true)).0

pub overflow_sub-text : goal.overflow_sub-text
overflow_sub-text c =
    let a = c.args in
    let at = c.loop-value.at in
    let d = digit-true a.text.now a.from at (sym c.digit_at.ensures ∙ c.loop-value-test.true) in
    omega (arith, digit-range (get_or a.text.now at 0) d.2)

pub overflow_add-value : goal.overflow_add-value
overflow_add-value c = let loop = c.loop-value in omega (arith, bounded loop.invariant, c.type_inv.text loop.at)

pub loop-value-smaller : goal.loop-value-smaller
loop-value-smaller c =
    let a = c.args in
    omega (arith, digit-true a.text.now a.from c.loop-value.at (sym c.digit_at.ensures ∙ c.loop-value-test.true))

pub loop-value-preserved : goal.loop-value-preserved
loop-value-preserved c = rw c.from.ensures (counting_more c.loop-value.invariant (sym c.digit_at.ensures ∙ c.loop-value-test.true))

pub returns : goal.returns
returns c = number_read c.loop-value.invariant c.requires (sym c.digit_at.ensures ∙ c.loop-value-test.false)
