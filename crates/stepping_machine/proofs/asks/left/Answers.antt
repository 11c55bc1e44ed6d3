-- `left` (src/asks.rt) keeps its contract.
use mathlib.Core.Path.{refl}
use native.Mathlib.Omega.{arith}
use Rattle.folds.specs.Folds.{sum}
use Rattle.stepping_machine.proofs.Told.{left-more, left-all}
use Rattle.stepping_machine.proofs.asks.left.Goals as goal

pub loop-k-init : goal.loop-k-init
unfolding sum
loop-k-init c = (refl, omega arith)

pub overflow_add-n : goal.overflow_add-n
overflow_add-n c = omega (arith, c.loop-k.invariant.1, c.saturating_sub-n.ensures, c.word.ensures.1)

pub loop-k-preserved : goal.loop-k-preserved
loop-k-preserved c = (left-more c.args.w.now _ _ _ c.loop-k.invariant.0 (simp (c.saturating_sub-n.ensures, c.word-in-loop-k.ensures.0, c.word.ensures.0)), omega (arith, c.loop-k.invariant.1, c.saturating_sub-n.ensures, c.word.ensures.1))

pub returns : goal.returns
returns c = left-all _ _ _ c.loop-k.invariant.0 (omega (arith, c.loop-k-test.false))
