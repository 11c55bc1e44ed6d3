-- `fill` (src/peel.rt) keeps its contract.
use native.Mathlib.Omega.{arith}
use Rattle.topological_order.proofs.Frames.{outside-none}
use Rattle.topological_order.proofs.Starts.{fill-asks, fill-turns, filled-done}
use Rattle.topological_order.proofs.peel.fill.Goals as goal

pub loop-t-init : goal.loop-t-init
loop-t-init c = (outside-none _, c.requires.filled)

pub offer-k-requires : goal.offer-k-requires
offer-k-requires c =
    let v = c.loop-t.invariant in
    let all = fill-asks c.requires.held v.0 (omega (arith, c.loop-t-test.true, c.tasks-t-end.ensures.0)) v.1 in
    record { held = all.0; t_bound = all.1.0; filled = all.1.1 }

pub loop-t-preserved : goal.loop-t-preserved
loop-t-preserved c = let t = fill-turns c.requires.held c.loop-t.invariant.0 c.offer-k.ensures in (t.0, t.1)

pub shape_of-w : goal.shape_of-w
shape_of-w c = c.loop-t.invariant.0.kept.long

pub returns : goal.returns
returns c = let v = c.loop-t.invariant in (v.0, filled-done v.1 (omega (arith, c.loop-t-test.false, c.tasks-t-end.ensures.0)))
