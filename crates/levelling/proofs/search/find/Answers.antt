-- `find` (src/search.rt) keeps its contract.
use mathlib.Core.Path.{◌∙◌}
use native.Mathlib.Omega.{arith}
use Rattle.topological_order.proofs.Frames.{outside-none, outside_trans}
use Rattle.levelling.proofs.Spreads.{find-asks, find-done, find-hit, find-miss, find-start}
use Rattle.levelling.proofs.search.find.Goals as goal

pub loop-t-init : goal.loop-t-init
loop-t-init c = (outside-none _, find-start _)

pub on_circle-requires : goal.on_circle-requires
on_circle-requires c =
    let v = c.loop-t.invariant in
    let all = find-asks c.requires.held c.requires.chained v.0 (omega (arith, c.loop-t-test.true, c.tasks-t-end.ensures.0)) in
    record { held = all.0; chained = all.1.0; goal_bound = all.1.1 }

pub shape_of-w-then-on_circle : goal.shape_of-w-then-on_circle
shape_of-w-then-on_circle c = c.on_circle.auto.w ∙ c.loop-t.invariant.0.kept.long

pub returns-then-on_circle : goal.returns-then-on_circle
returns-then-on_circle c = let v = c.loop-t.invariant in (outside_trans v.0 c.on_circle.ensures.0, find-hit c.loop-t.t c.requires.held v.0 (omega (arith, c.loop-t-test.true, c.tasks-t-end.ensures.0)) v.1 c.on_circle.ensures.1 c.if-on_circle.true)

pub loop-t-preserved : goal.loop-t-preserved
loop-t-preserved c = let v = c.loop-t.invariant in (outside_trans v.0 c.on_circle.ensures.0, find-miss c.loop-t.t c.requires.held v.0 v.1 c.on_circle.ensures.1 c.if-on_circle.false)

pub shape_of-w : goal.shape_of-w
shape_of-w c = c.loop-t.invariant.0.kept.long

pub returns : goal.returns
returns c = let v = c.loop-t.invariant in (v.0, find-done _ c.loop-t.t v.1 (omega (arith, c.loop-t-test.false, c.tasks-t-end.ensures.0)))
