-- `rest` (src/load.rt) keeps its contract.
use mathlib.Core.Path.{◌≡◌}
use native.Mathlib.Omega.{arith}
use Rattle.stepping_machine.proofs.Opening.{rest_more, rest-starts}
use Rattle.stepping_machine.proofs.load.rest.Goals as goal

pub loop-k-init : goal.loop-k-init
loop-k-init c = rest-starts _ _

pub open_programme-requires : goal.open_programme-requires
open_programme-requires c = (omega arith, omega (arith, c.loop-k.invariant.long, c.requires.1))

pub loop-k-preserved : goal.loop-k-preserved
loop-k-preserved c = rest_more _ _ _ _ _ c.loop-k.auto.k c.loop-k-test.true c.requires.1 c.loop-k.invariant c.open_programme.ensures

pub shape_of-w : goal.shape_of-w
shape_of-w c = c.loop-k.invariant.long

pub returns : goal.returns
returns c = let e : c.loop-k.k ≡ 16 = omega (arith, c.loop-k.auto.k-end, c.loop-k-test.false) in rw e at c.loop-k.invariant
