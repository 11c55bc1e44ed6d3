-- `record` (src/recording.rt) keeps its contract.
use native.Mathlib.Omega.{arith}
use mathlib.Core.Path.{◌∙◌}
use Rattle.stepping_machine.proofs.Going.{settle-ends, settle-more, settle-starts, settle-stops}
use Rattle.drift.proofs.Noting.{note-none, note-then, note-as}
use Rattle.drift.proofs.recording.record.Goals as goal

pub loop-init : goal.loop-init
loop-init c = (settle-starts _, omega arith, note-none _ _ _ _)

pub round-m-requires : goal.round-m-requires
round-m-requires c = omega (arith, c.loop.invariant.1)

pub shape_of-w-then-m-eq0 : goal.shape_of-w-then-m-eq0
shape_of-w-then-m-eq0 c = c.round-m.ensures.2.long ∙ c.loop.invariant.2.long

pub shape_of-order-then-m-eq0 : goal.shape_of-order-then-m-eq0
shape_of-order-then-m-eq0 c = c.round-m.ensures.2.order_long ∙ c.loop.invariant.2.order_long

pub shape_of-ends-then-m-eq0 : goal.shape_of-ends-then-m-eq0
shape_of-ends-then-m-eq0 c = c.round-m.ensures.2.ends_long ∙ c.loop.invariant.2.ends_long

pub returns-then-m-eq0 : goal.returns-then-m-eq0
returns-then-m-eq0 c =
    let i = c.loop.invariant in
    let e = c.round-m.ensures in
    (settle-stops c.if-m-eq0.true i.0 e.0, note-then i.2 (note-as (omega (arith, c.if-m-eq0.true)) e.2))

pub overflow_add-n : goal.overflow_add-n
overflow_add-n c = omega (arith, c.loop.invariant.1, c.round-m.ensures.1)

pub loop-preserved : goal.loop-preserved
loop-preserved c =
    let i = c.loop.invariant in
    let e = c.round-m.ensures in
    (settle-more c.if-m-eq0.false i.0 e.0, omega (arith, i.1, e.1), note-then i.2 e.2)

pub shape_of-w : goal.shape_of-w
shape_of-w c = c.loop.invariant.2.long

pub shape_of-order : goal.shape_of-order
shape_of-order c = c.loop.invariant.2.order_long

pub shape_of-ends : goal.shape_of-ends
shape_of-ends c = c.loop.invariant.2.ends_long

pub returns : goal.returns
returns c = let i = c.loop.invariant in (settle-ends c.loop-test.false i.0, i.2)
