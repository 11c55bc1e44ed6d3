-- `copy` (src/start.rt) keeps its contract.
use mathlib.Core.Path.{◌≡◌, refl}
use native.Mathlib.Omega.{arith}
use Rattle.stepping_machine.proofs.Starting.{copy_more, copy-starts}
use Rattle.stepping_machine.proofs.start.copy.Goals as goal

pub loop-i-init : goal.loop-i-init
loop-i-init c = (copy-starts _ _ _, c.requires.0)

pub bounds-w-i : goal.bounds-w-i
bounds-w-i c = omega (arith, c.loop-i-test.true, c.requires.2, c.loop-i.invariant.0.long)

pub loop-i-preserved : goal.loop-i-preserved
loop-i-preserved c = (copy_more _ _ _ _ _ _ c.loop-i.auto.i (omega (arith, c.loop-i-test.true, c.requires.2)) c.loop-i.invariant.0 refl, omega (arith, c.loop-i-test.true))

pub shape_of-w : goal.shape_of-w
shape_of-w c = c.loop-i.invariant.0.long

pub returns : goal.returns
returns c = let e : c.loop-i.i ≡ c.args.e = omega (arith, c.loop-i.invariant.1, c.loop-i-test.false) in rw e at c.loop-i.invariant.0
