-- `advance` (src/recording.rt) keeps its contract.
use native.Mathlib.Omega.{arith}
use mathlib.Core.Path.{◌≡◌, ◌∙◌, ap, refl}
use Rattle.stepping_machine.specs.Layout.{longest}
use Rattle.folds.specs.Folds.{bit}
use Rattle.stepping_machine.proofs.Going.{advance-full, advance-more, advance-starts, advance-stops}
use Rattle.drift.proofs.Noting.{note-none, note-then, note-as}
use Rattle.drift.proofs.recording.advance.Goals as goal

pub loop-m-init : goal.loop-m-init
loop-m-init c = (advance-starts _, note-as (omega arith) (note-none _ _ _ _))

pub loop-m-preserved : goal.loop-m-preserved
loop-m-preserved c =
    let i = c.loop-m.invariant in
    let e = c.note_step.ensures in
    (advance-more _ c.if-not-note_step.false i.0 e.0, note-then i.1 (note-as (omega (arith, ap bit c.if-not-note_step.false)) e.1))

pub shape_of-w-then-not-note_step : goal.shape_of-w-then-not-note_step
shape_of-w-then-not-note_step c = c.note_step.ensures.1.long ∙ c.loop-m.invariant.1.long

pub shape_of-order-then-not-note_step : goal.shape_of-order-then-not-note_step
shape_of-order-then-not-note_step c = c.note_step.ensures.1.order_long ∙ c.loop-m.invariant.1.order_long

pub shape_of-ends-then-not-note_step : goal.shape_of-ends-then-not-note_step
shape_of-ends-then-not-note_step c = c.note_step.ensures.1.ends_long ∙ c.loop-m.invariant.1.ends_long

pub returns-then-not-note_step : goal.returns-then-not-note_step
returns-then-not-note_step c =
    let i = c.loop-m.invariant in
    let e = c.note_step.ensures in
    (advance-stops _ c.if-not-note_step.true c.loop-m.auto.m-end i.0 e.0, note-then i.1 (note-as (omega (arith, ap bit c.if-not-note_step.true)) e.1))

pub shape_of-w : goal.shape_of-w
shape_of-w c = c.loop-m.invariant.1.long

pub shape_of-order : goal.shape_of-order
shape_of-order c = c.loop-m.invariant.1.order_long

pub shape_of-ends : goal.shape_of-ends
shape_of-ends c = c.loop-m.invariant.1.ends_long

pub returns : goal.returns
returns c =
    let e : c.loop-m.m ≡ longest = omega (arith, c.loop-m.auto.m-end, c.loop-m-test.false) in
    let i = rw e at c.loop-m.invariant in
    (advance-full refl i.0, i.1)
