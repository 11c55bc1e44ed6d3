-- `advance` (src/settling.rt) keeps its contract.
use Rattle.stepping_machine.proofs.Going.{advance-full, advance-more, advance-starts, advance-stops}
use mathlib.Core.Path.{◌≡◌, ◌∙◌, refl}
use Rattle.stepping_machine.specs.Layout.{longest}
use native.Mathlib.Omega.{arith}
use Rattle.stepping_machine.proofs.settling.advance.Goals as goal

pub loop-n-init : goal.loop-n-init
loop-n-init c = advance-starts _

pub loop-n-preserved : goal.loop-n-preserved
loop-n-preserved c = advance-more _ c.if-not-step.false c.loop-n.invariant c.step.ensures

pub shape_of-w-then-not-step : goal.shape_of-w-then-not-step
shape_of-w-then-not-step c = c.step.ensures.steps.long ∙ c.loop-n.invariant.goes.runs.long

pub returns-then-not-step : goal.returns-then-not-step
returns-then-not-step c = advance-stops _ c.if-not-step.true c.loop-n.auto.n-end c.loop-n.invariant c.step.ensures

pub shape_of-w : goal.shape_of-w
shape_of-w c = c.loop-n.invariant.goes.runs.long

pub returns : goal.returns
returns c =
    let e : c.loop-n.n ≡ longest = omega (arith, c.loop-n.auto.n-end, c.loop-n-test.false) in
    advance-full refl (rw e at c.loop-n.invariant)
