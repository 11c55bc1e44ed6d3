-- `put_messages` (src/writing.rt) keeps its contract.
use native.Mathlib.Omega.{arith}
use Rattle.search.proofs.Fronts.{passed_none, passed-more, passed-all}
use Rattle.search.proofs.writing.put_messages.Goals as goal

pub loop-l-init : goal.loop-l-init
loop-l-init c = passed_none _ _ _ _ _ _ _ _

pub put_message-at-requires : goal.put_message-at-requires
put_message-at-requires c = (omega (arith, c.loop-l.invariant.few, c.loop-l.invariant.long, c.requires.1, c.loop-l-test.true), omega (arith, c.requires.0.links, c.loop-l-test.true))

pub loop-l-preserved : goal.loop-l-preserved
loop-l-preserved c = passed-more _ _ _ _ _ _ _ _ c.loop-l.invariant c.put_message-at.ensures

pub shape_of-buf : goal.shape_of-buf
shape_of-buf c = c.loop-l.invariant.long

pub returns : goal.returns
returns c = passed-all _ _ _ _ _ _ _ _ (omega (arith, c.loop-l.auto.l-end, c.loop-l-test.false)) c.loop-l.invariant
