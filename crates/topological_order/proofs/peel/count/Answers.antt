-- `count` (src/peel.rt) keeps its contract.
use native.Mathlib.Omega.{arith}
use Rattle.topological_order.proofs.Frames.{outside-none, loaded-declared}
use Rattle.topological_order.proofs.Starts.{count-asks, count-turns, counted-at, filled_none}
use mathlib.Core.Path.{refl}
use Rattle.topological_order.proofs.peel.count.Goals as goal

pub loop-l-init : goal.loop-l-init
loop-l-init c = (outside-none _, c.requires.counted)

pub count_one-requires : goal.count_one-requires
count_one-requires c =
    let v = c.loop-l.invariant in
    let all = count-asks c.requires.held v.0 (omega (arith, c.loop-l-test.true, c.links-l-end.ensures.0)) v.1 in
    record { held = all.0; l_bound = all.1.0; counted = all.1.1 }

pub loop-l-preserved : goal.loop-l-preserved
loop-l-preserved c = let t = count-turns c.requires.held c.loop-l.invariant.0 c.count_one.ensures in (t.0, t.1)

pub shape_of-w : goal.shape_of-w
shape_of-w c = c.loop-l.invariant.0.kept.long

pub returns : goal.returns
returns c = let v = c.loop-l.invariant in (v.0, filled_none _ _ (loaded-declared c.requires.held.loaded) (counted-at v.1 refl (omega (arith, c.loop-l-test.false, c.links-l-end.ensures.0))))
