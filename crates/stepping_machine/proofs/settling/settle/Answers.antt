-- `settle` (src/settling.rt) keeps its contract.
use Rattle.stepping_machine.proofs.Going.{settle-ends, settle-more, settle-starts, settle-stops}
use mathlib.Core.Path.{◌∙◌}
use Rattle.stepping_machine.proofs.settling.settle.Goals as goal

pub loop-init : goal.loop-init
loop-init c = settle-starts _

pub shape_of-w-then-round-eq0 : goal.shape_of-w-then-round-eq0
shape_of-w-then-round-eq0 c = c.round.ensures.goes.runs.long ∙ c.loop.invariant.goes.runs.long

pub returns-then-round-eq0 : goal.returns-then-round-eq0
returns-then-round-eq0 c = settle-stops c.if-round-eq0.true c.loop.invariant c.round.ensures

pub loop-preserved : goal.loop-preserved
loop-preserved c = settle-more c.if-round-eq0.false c.loop.invariant c.round.ensures

pub shape_of-w : goal.shape_of-w
shape_of-w c = c.loop.invariant.goes.runs.long

pub returns : goal.returns
returns c = settle-ends c.loop-test.false c.loop.invariant
