-- `insert` (src/inserting.rt) keeps its contract. `g` is the loop, `z` the size of the command that was read.
use mathlib.Core.Path.{◌∙◌, ap, refl}
use native.Mathlib.Omega.{arith}
use Rattle.bundle.specs.Kinds.{size_by}
use Rattle.admission.proofs.Passes.{size-between}
use Rattle.releasing.proofs.Insertions.{insert-starts, first_small, insert-open, insert-command, insert-ends, near, size-of-command}
use Rattle.releasing.proofs.Lays.{lay-long}
use Rattle.releasing.proofs.inserting.insert.Goals as goal

pub copy-to-requires : goal.copy-to-requires
copy-to-requires c = (omega arith, omega (arith, c.min.ensures, c.saturating_sub-end.ensures), omega arith)

pub loop-at-init : goal.loop-at-init
loop-at-init c = insert-starts _ _ _ _ (first_small _ _ _ c.min.ensures c.copy-to.ensures)

pub bounds-bundle-at : goal.bounds-bundle-at
bounds-bundle-at c = omega (arith, c.saturating_sub-end.ensures)

pub overflow_add-at : goal.overflow_add-at
overflow_add-at c = omega (arith, c.size_of-size.ensures, size-between c.from.result, c.saturating_sub-end.ensures, c.loop-at-test.true)

pub copy-to-requires-in-loop-at : goal.copy-to-requires-in-loop-at
copy-to-requires-in-loop-at c =
    let far = c.saturating_sub-end.ensures in
    let pre = c.requires in
    (omega arith, omega (arith, c.size_of-size.ensures, size-between c.from.result, far, c.loop-at-test.true), omega (arith, c.loop-at.invariant.room, far, c.loop-at-test.true, pre.1))

pub overflow_add-at-in-loop-at : goal.overflow_add-at-in-loop-at
overflow_add-at-in-loop-at c =
    let pre = c.requires in
    omega (arith, c.size_of-size.ensures, size-between c.from.result, c.saturating_sub-end.ensures, c.loop-at-test.true, pre.1)

pub overflow_add-k : goal.overflow_add-k
overflow_add-k c = omega (arith, c.loop-at.invariant.few, c.saturating_sub-end.ensures, c.loop-at-test.true)

pub loop-at-smaller-then-c-eq80 : goal.loop-at-smaller-then-c-eq80
loop-at-smaller-then-c-eq80 c = omega (arith, c.size_of-size.ensures, size-between c.from.result, c.loop-at-test.true)

pub loop-at-preserved-then-c-eq80 : goal.loop-at-preserved-then-c-eq80
loop-at-preserved-then-c-eq80 c =
    insert-open _ c.saturating_sub-end.ensures c.loop-at.invariant c.loop-at-test.true _ (c.size_of-size.ensures ∙ ap size_by c.from.ensures)
    (size-of-command _ _ c.size_of-size.ensures) _ _ c.if-c-eq80.true c.copy-to-in-loop-at.ensures

pub overflow_add-k-else-c-eq80-2 : goal.overflow_add-k-else-c-eq80-2
overflow_add-k-else-c-eq80-2 c = omega (arith, c.loop-at.invariant.less, c.saturating_sub-end.ensures, c.loop-at-test.true)

pub put_behind-to-requires : goal.put_behind-to-requires
put_behind-to-requires c =
    let pre = c.requires in
    let far = c.saturating_sub-end.ensures in
    let to = near _ far c.loop-at.invariant c.loop-at-test.true _ (c.size_of-size.ensures ∙ ap size_by c.from.ensures) (size-of-command _ _ c.size_of-size.ensures) c.copy-to-in-loop-at.ensures in
    (pre.0, omega (arith, to, c.loop-at.invariant.room, far, c.loop-at-test.true, pre.1))

pub overflow_add-r : goal.overflow_add-r
overflow_add-r c = omega (arith, c.loop-at.invariant.less, c.saturating_sub-end.ensures, c.loop-at-test.true)

pub loop-at-smaller : goal.loop-at-smaller
loop-at-smaller c = omega (arith, c.size_of-size.ensures, size-between c.from.result, c.loop-at-test.true)

pub loop-at-preserved : goal.loop-at-preserved
loop-at-preserved c =
    insert-command _ c.saturating_sub-end.ensures c.loop-at.invariant c.loop-at-test.true _ (c.size_of-size.ensures ∙ ap size_by c.from.ensures)
    (size-of-command _ _ c.size_of-size.ensures) _ _ _ _ _ c.if-c-eq80.false c.copy-to-in-loop-at.ensures refl c.put_behind-to.ensures

pub copy-requires : goal.copy-requires
copy-requires c =
    let far = c.saturating_sub-end.ensures in
    let pre = c.requires in
    (omega (arith, far), omega arith, omega (arith, c.loop-at.invariant.room, c.loop-at.invariant.reach, pre.1))

pub shape_of-out : goal.shape_of-out
shape_of-out c = lay-long c.copy.ensures ∙ c.loop-at.invariant.long ∙ lay-long c.copy-to.ensures

pub returns : goal.returns
returns c =
    insert-ends _ _ c.saturating_sub-end.ensures c.min.ensures c.copy-to.ensures c.loop-at.invariant c.loop-at-test.false _ _
    c.copy.ensures
