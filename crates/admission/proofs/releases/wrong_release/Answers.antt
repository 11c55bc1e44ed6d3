-- `wrong_release` (src/releases.rt) keeps its contract. `g` is the loop, `z` its size.
use mathlib.Core.Path.{◌∙◌, ap, refl, sym}
use Rattle.bundle.specs.Kinds.{size_by}
use native.Mathlib.Omega.{arith}
use Rattle.admission.proofs.Passes.{size-between}
use Rattle.admission.proofs.Freeing.{freeing-starts, freeing-open, freeing-plain, freeing-wrong, freeing-right, freeing-ends, wrong-after}
use Rattle.admission.proofs.releases.wrong_release.Goals as goal

pub loop-at-init : goal.loop-at-init
loop-at-init c = freeing-starts _ _ (omega (arith, c.requires, c.keep_lasts.ensures.apart.long))

pub bounds-bundle-at : goal.bounds-bundle-at
bounds-bundle-at c = omega (arith, c.saturating_sub-end.ensures)

pub overflow_add-k : goal.overflow_add-k
overflow_add-k c = omega (arith, c.loop-at.invariant.few, c.saturating_sub-end.ensures, c.loop-at-test.true)

pub overflow_add-at : goal.overflow_add-at
overflow_add-at c = omega (arith, c.size_of-size.ensures, size-between c.from.result, c.saturating_sub-end.ensures, c.loop-at-test.true)

pub loop-at-smaller-then-c-eq80 : goal.loop-at-smaller-then-c-eq80
loop-at-smaller-then-c-eq80 c = omega (arith, c.size_of-size.ensures, size-between c.from.result, c.loop-at-test.true)

pub loop-at-preserved-then-c-eq80 : goal.loop-at-preserved-then-c-eq80
loop-at-preserved-then-c-eq80 c =
    freeing-open _ c.saturating_sub-end.ensures c.loop-at.invariant c.loop-at-test.true c.if-c-eq80.true _ (c.size_of-size.ensures ∙ ap size_by c.from.ensures)

pub freed_at-x-requires : goal.freed_at-x-requires
freed_at-x-requires c = omega (arith, c.saturating_sub-end.ensures, c.loop-at-test.true)

pub overflow_add-k-then-c-lt80-2 : goal.overflow_add-k-then-c-lt80-2
overflow_add-k-then-c-lt80-2 c = omega (arith, c.loop-at.invariant.less, c.saturating_sub-end.ensures, c.loop-at-test.true)

pub overflow_add-at-then-precedes : goal.overflow_add-at-then-precedes
overflow_add-at-then-precedes c = omega (arith, c.size_of-size.ensures, size-between c.from.result, c.saturating_sub-end.ensures, c.loop-at-test.true)

pub loop-at-smaller-then-precedes : goal.loop-at-smaller-then-precedes
loop-at-smaller-then-precedes c = omega (arith, c.size_of-size.ensures, size-between c.from.result, c.loop-at-test.true)

pub loop-at-preserved-then-precedes : goal.loop-at-preserved-then-precedes
loop-at-preserved-then-precedes c =
    freeing-right _ c.saturating_sub-end.ensures c.loop-at.invariant c.loop-at-test.true c.if-c-lt80.true _ refl _ c.freed_at-x.ensures.0 _ c.word.ensures.0
    (sym c.precedes.ensures ∙ c.if-precedes.true) _ c.put.ensures _ (c.size_of-size.ensures ∙ ap size_by c.from.ensures)
    (omega (arith, c.size_of-size.ensures, size-between c.from.result))

pub shape_of-w-else-precedes : goal.shape_of-w-else-precedes
shape_of-w-else-precedes c = c.loop-at.invariant.kept.long ∙ c.keep_lasts.ensures.apart.long

pub returns-else-precedes : goal.returns-else-precedes
returns-else-precedes c =
    wrong-after c.keep_lasts.ensures
    (freeing-wrong _ c.saturating_sub-end.ensures c.loop-at.invariant c.loop-at-test.true c.if-c-lt80.true _ refl _ c.freed_at-x.ensures.0 _ c.word.ensures.0
    (sym c.precedes.ensures ∙ c.if-precedes.false))

pub overflow_add-r : goal.overflow_add-r
overflow_add-r c = omega (arith, c.loop-at.invariant.less, c.saturating_sub-end.ensures, c.loop-at-test.true)

pub overflow_add-at-else-c-lt80 : goal.overflow_add-at-else-c-lt80
overflow_add-at-else-c-lt80 c = omega (arith, c.size_of-size.ensures, size-between c.from.result, c.saturating_sub-end.ensures, c.loop-at-test.true)

pub loop-at-smaller : goal.loop-at-smaller
loop-at-smaller c = omega (arith, c.size_of-size.ensures, size-between c.from.result, c.loop-at-test.true)

pub loop-at-preserved : goal.loop-at-preserved
loop-at-preserved c =
    freeing-plain _ c.saturating_sub-end.ensures c.loop-at.invariant c.loop-at-test.true (omega (arith, c.if-c-lt80.false, c.if-c-eq80.false)) _ (c.size_of-size.ensures ∙ ap size_by c.from.ensures)
    (omega (arith, c.size_of-size.ensures, size-between c.from.result))

pub shape_of-w : goal.shape_of-w
shape_of-w c = c.loop-at.invariant.kept.long ∙ c.keep_lasts.ensures.apart.long

pub returns : goal.returns
returns c = wrong-after c.keep_lasts.ensures (freeing-ends _ c.saturating_sub-end.ensures c.loop-at.invariant c.loop-at-test.false)
