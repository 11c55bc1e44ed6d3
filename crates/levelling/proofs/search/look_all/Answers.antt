-- `look_all` (src/search.rt) keeps its contract.
use mathlib.Core.Path.{◌∙◌}
use native.Mathlib.Omega.{arith}
use Rattle.topological_order.proofs.Frames.{outside-none, outside_trans}
use Rattle.levelling.proofs.Spreads.{look-asks, look-back, look-ends, look-index, look-on}
use Rattle.levelling.proofs.search.look_all.Goals as goal

pub loop-i-init : goal.loop-i-init
loop-i-init c = (outside-none _, c.requires.searched)

pub look-requires : goal.look-requires
look-requires c =
    let v = c.loop-i.invariant in
    let all = look-asks c.requires.held c.requires.chained v.0 c.loop-i-test.true v.1 in
    record { held = all.0; chained = all.1.0; i_lt_k = all.1.1.0; searched = all.1.1.1 }

pub shape_of-w-in-None : goal.shape_of-w-in-None
shape_of-w-in-None c = c.look.auto.w ∙ c.loop-i.invariant.0.kept.long

pub returns-in-None : goal.returns-in-None
returns-in-None c = let v = c.loop-i.invariant in (outside_trans v.0 c.look.ensures.0, look-back c.requires.held v.0 c.in-None.is c.look.ensures.1)

pub overflow_add-i : goal.overflow_add-i
overflow_add-i c = omega (arith, look-index c.loop-i.invariant.1 c.loop-i-test.true, c.requires.held.few_tasks)

pub loop-i-smaller : goal.loop-i-smaller
loop-i-smaller c = omega (arith, look-index c.loop-i.invariant.1 c.loop-i-test.true)

pub loop-i-preserved : goal.loop-i-preserved
loop-i-preserved c = let v = c.loop-i.invariant in (outside_trans v.0 c.look.ensures.0, look-on c.requires.held v.0 c.in-Some.is c.look.ensures.1)

pub shape_of-w : goal.shape_of-w
shape_of-w c = c.loop-i.invariant.0.kept.long

pub returns : goal.returns
returns c = let v = c.loop-i.invariant in (v.0, look-ends c.requires.held c.requires.goal_bound v.1 (omega (arith, c.loop-i-test.false)))
