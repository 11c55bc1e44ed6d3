-- `listing_writer::rows::needed` meets its contract.
use native.Mathlib.Omega.{arith}
use Rattle.listing.specs.Listing.{task_line}
use Rattle.schedule.specs.Layout.{schedule_in}
use Rattle.sheet.specs.Tables.{sheet_in}
use Rattle.listing_writer.proofs.Parts.{needed-none, needed-more, needed-all}
use Rattle.listing_writer.proofs.rows.needed.Goals as goal

pub loop-t-init : goal.loop-t-init
loop-t-init c = (omega (arith, c.plan_length-n.ensures.1), needed-none _ _)

pub task_length-n-requires : goal.task_length-n-requires
task_length-n-requires c = record { loaded = c.requires.loaded; t_bound = omega (arith, c.tasks-tasks.ensures.0) }

pub overflow_add-n : goal.overflow_add-n
overflow_add-n c = omega (arith, c.loop-t.auto.t-end, c.loop-t.invariant.0, c.tasks-tasks.ensures.1, c.task_length-n.ensures.1)

pub loop-t-preserved : goal.loop-t-preserved
loop-t-preserved c = (omega (arith, c.loop-t.invariant.0, c.task_length-n.ensures.1), needed-more (task_line (schedule_in c.args.w.now)) _ _ _ _ c.loop-t.invariant.1 c.task_length-n.ensures.0)

pub returns : goal.returns
returns c = (
  needed-all (sheet_in c.args.w.now) (schedule_in c.args.w.now) _ _ _ c.plan_length-n.ensures.0 c.loop-t.invariant.1 (omega (arith, c.loop-t.auto.t-end, c.tasks-tasks.ensures.0)),
  omega (arith, c.loop-t.auto.t-end, c.loop-t.invariant.0, c.tasks-tasks.ensures.1),
)
