-- `latest` (src/whole.rt) keeps its contract.
use Rattle.checker.proofs.Closing.{latest-is, latest-more, latest-none}
use native.Mathlib.Omega.{arith}
use Rattle.checker.proofs.whole.latest.Goals as goal

pub loop-k-init : goal.loop-k-init
loop-k-init c = latest-none c.args.w.now

pub overflow_add-k : goal.overflow_add-k
overflow_add-k c = omega (arith, c.word-n.ensures.1)

pub loop-k-preserved : goal.loop-k-preserved
loop-k-preserved c = latest-more c.args.w.now c.loop-k.k _ _ _ c.loop-k.invariant c.word.ensures.0 c.max-best.ensures

pub returns : goal.returns
returns c = latest-is c.args.w.now c.loop-k.k _ c.loop-k.invariant (omega (arith, c.word-n.ensures.0))
