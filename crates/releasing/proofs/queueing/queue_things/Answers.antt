-- `queue_things` (src/queueing.rt) keeps its contract.
use native.Mathlib.Omega.{arith}
use Rattle.releasing.proofs.Queuing.{queues-none, queues-more, queues-at}
use Rattle.releasing.proofs.queueing.queue_things.Goals as goal

pub loop-x-init : goal.loop-x-init
loop-x-init c = (omega arith, queues-none _ _)

pub queue_thing-requires : goal.queue_thing-requires
queue_thing-requires c = (omega (arith, c.loop-x.auto.x), omega (arith, c.loop-x.invariant.1.above.long))

pub loop-x-preserved : goal.loop-x-preserved
loop-x-preserved c = (omega (arith, c.loop-x-test.true), queues-more (omega (arith, c.loop-x-test.true)) c.loop-x.auto.x c.loop-x.invariant.1 c.queue_thing.ensures)

pub shape_of-w : goal.shape_of-w
shape_of-w c = c.loop-x.invariant.1.above.long

pub returns : goal.returns
returns c = queues-at (omega (arith, c.loop-x-test.false, c.loop-x.invariant.0)) c.loop-x.invariant.1
