-- `load_all` (src/load.rt) keeps its contract.
use Rattle.stepping_machine.proofs.Opening.{going-ends, going_more, going-over, going-decodable, going-starts}
use mathlib.Core.Path.{◌∙◌}
use native.Mathlib.Omega.{arith}
use Rattle.stepping_machine.proofs.load.load_all.Goals as goal

pub loop-k-init : goal.loop-k-init
loop-k-init c = going-starts _ _ _ _ _ c.requires.few

pub load_one-x-requires : goal.load_one-x-requires
load_one-x-requires c = let y = c.requires in let g = c.loop-k.invariant in (going-decodable _ _ _ _ _ y.few _ _ _ y g c.loop-k-test.true, omega (arith, y.few), omega (arith, g.long, y.long), g.behind, omega (arith, g.few, y.few))

pub shape_of-w-then-v-x : goal.shape_of-w-then-v-x
shape_of-w-then-v-x c = c.load_one-x.ensures.long ∙ c.loop-k.invariant.long

pub returns-then-v-x : goal.returns-then-v-x
returns-then-v-x c = going-over _ _ _ _ _ c.requires.few _ _ _ _ _ _ c.loop-k.invariant c.loop-k-test.true c.load_one-x.ensures c.if-v-x.true

pub loop-k-preserved : goal.loop-k-preserved
loop-k-preserved c = going_more _ _ _ _ _ c.requires.few _ _ _ _ _ _ c.loop-k.invariant c.loop-k-test.true c.load_one-x.ensures (omega (arith, c.if-v-x.false))

pub shape_of-w : goal.shape_of-w
shape_of-w c = c.loop-k.invariant.long

pub returns : goal.returns
returns c = going-ends _ _ _ _ _ c.requires.few _ _ _ (omega (arith, c.loop-k-test.false, c.loop-k.auto.k-end)) c.loop-k.invariant
