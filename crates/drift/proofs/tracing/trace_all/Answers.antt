-- `trace_all` (src/tracing.rt) keeps its contract.
use native.Mathlib.Omega.{arith}
use Rattle.drift.proofs.Backwards.{tracing-starts, tracing-more, tracing-ends}
use Rattle.drift.proofs.tracing.trace_all.Goals as goal

pub loop-i-init : goal.loop-i-init
loop-i-init c = tracing-starts _ _ _ _ _

pub loop-i-preserved : goal.loop-i-preserved
loop-i-preserved c = tracing-more c.loop-i-test.true c.byte.ensures.0 c.loop-i.invariant c.trace_one.ensures

pub shape_of-w : goal.shape_of-w
shape_of-w c = c.loop-i.invariant.long

pub shape_of-slots : goal.shape_of-slots
shape_of-slots c = c.loop-i.invariant.slots_long

pub returns : goal.returns
returns c = tracing-ends (omega (arith, c.loop-i-test.false)) c.loop-i.invariant
