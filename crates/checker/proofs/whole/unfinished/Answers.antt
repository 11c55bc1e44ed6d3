-- `unfinished` (src/whole.rt) keeps its contract.
use Rattle.checker.proofs.Closing.{finished-all, finished-found, finished-more, finished-none}
use native.Mathlib.Omega.{arith}
use Rattle.checker.proofs.whole.unfinished.Goals as goal

pub loop-k-init : goal.loop-k-init
loop-k-init c = finished-none _

pub overflow_add-k : goal.overflow_add-k
overflow_add-k c = omega (arith, c.word-count.ensures.1, c.loop-k-test.true)

pub returns-then-word : goal.returns-then-word
returns-then-word c = finished-found _ _ c.loop-k.invariant (omega (arith, c.word-count.ensures.0, c.loop-k-test.true)) (omega (arith, c.word-in-loop-k.ensures.0, c.word.ensures.0, c.if-word.true))

pub loop-k-preserved : goal.loop-k-preserved
loop-k-preserved c = finished-more c.loop-k.invariant (omega (arith, c.word-in-loop-k.ensures.0, c.word.ensures.0, c.if-word.false))

pub returns : goal.returns
returns c = finished-all _ _ c.loop-k.invariant (omega (arith, c.word-count.ensures.0, c.loop-k-test.false))
