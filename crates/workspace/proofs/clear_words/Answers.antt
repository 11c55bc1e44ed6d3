-- `clear_words` (src/lib.rt) keeps its contract.
use Rattle.workspace.proofs.Clearing.{clearing-ends, clearing-more, clearing-starts}
use mathlib.Core.Path.{refl}
use native.Mathlib.Omega.{arith}
use Rattle.workspace.proofs.clear_words.Goals as goal

pub loop-i-init : goal.loop-i-init
loop-i-init c = clearing-starts _ _ _

pub bounds-w-i : goal.bounds-w-i
bounds-w-i c = omega (arith, c.loop-i.invariant.done.long, c.requires)

pub loop-i-preserved : goal.loop-i-preserved
loop-i-preserved c = clearing-more _ c.loop-i-test.true c.requires c.loop-i.invariant refl

pub shape_of-w : goal.shape_of-w
shape_of-w c = c.loop-i.invariant.done.long

pub returns : goal.returns
returns c = clearing-ends c.loop-i.invariant (omega (arith, c.loop-i-test.false))
