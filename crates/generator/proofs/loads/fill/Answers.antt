-- `fill` (src/loads.rt) keeps its contract.
use Rattle.std.proofs.Common.{sym, ◌∙◌, arith}
use Rattle.generator.proofs.Fills.{trying-none, trying-more, trying-few, all-tried}
use Rattle.generator.proofs.loads.fill.Goals as goal

pub loop-j-init : goal.loop-j-init
loop-j-init c = trying-none c.put_tasks-d.ensures _ c.blank.ensures

pub add_try-d-requires : goal.add_try-d-requires
add_try-d-requires c =
    let t = c.loop-j.invariant in
    record { filling = t.filling; tasks_value = (sym t.tasks, omega (arith, c.requires.1), omega (arith, trying-few t, c.requires.3)) }

pub loop-j-preserved : goal.loop-j-preserved
loop-j-preserved c = trying-more c.loop-j.invariant _ _ c.add_try-d.ensures

pub shape_of-w : goal.shape_of-w
shape_of-w c = c.loop-j.invariant.long ∙ c.blank.auto.w ∙ c.put_tasks-d.ensures.long

pub returns : goal.returns
returns c = all-tried _ _ c.loop-j.invariant (c.blank.auto.w ∙ c.put_tasks-d.ensures.long) (omega arith)
