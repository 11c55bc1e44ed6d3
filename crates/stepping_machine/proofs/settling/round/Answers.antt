-- `round` (src/settling.rt) keeps its contract.
use Rattle.stepping_machine.proofs.Going.{round-ends, round-more, round-starts}
use native.Mathlib.Omega.{arith}
use Rattle.stepping_machine.proofs.settling.round.Goals as goal

pub loop-k-init : goal.loop-k-init
loop-k-init c = (round-starts _, omega (arith, c.min-count.ensures))

pub overflow_add-n : goal.overflow_add-n
overflow_add-n c = omega (arith, c.advance-n.ensures.few, c.loop-k.invariant.0.few, c.loop-k.invariant.1)

pub loop-k-preserved : goal.loop-k-preserved
loop-k-preserved c = (round-more c.loop-k.invariant.0 c.advance-n.ensures, c.loop-k.invariant.1)

pub shape_of-w : goal.shape_of-w
shape_of-w c = c.loop-k.invariant.0.goes.runs.long

pub returns : goal.returns
returns c = round-ends c.loop-k.invariant.0 (omega (arith, c.min-count.ensures, c.word.ensures.0, c.loop-k-test.false))
