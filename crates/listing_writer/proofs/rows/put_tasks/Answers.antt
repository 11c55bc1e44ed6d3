-- `listing_writer::rows::put_tasks` meets its contract.
use native.Mathlib.Omega.{arith}
use mathlib.Core.Path.{refl, ◌∙◌}
use Rattle.listing.specs.Listing.{task_line}
use Rattle.schedule.specs.Layout.{schedule_in}
use Rattle.listing_writer.proofs.Parts.{tasks-none, tasks-more, tasks-all, tasks-room}
use Rattle.listing_writer.proofs.rows.put_tasks.Goals as goal

pub tasks-n-requires : goal.tasks-n-requires
tasks-n-requires c = c.requires.loaded

pub loop-t-init : goal.loop-t-init
loop-t-init c = (refl, tasks-none _ _ _ (omega (arith, c.requires.w_in_bounds)))

pub put_task-end-requires : goal.put_task-end-requires
put_task-end-requires c = record { loaded = c.requires.loaded; t_bound = omega (arith, c.loop-t-test.true, c.tasks-n.ensures.0); t_in_bounds = tasks-room c.args.out.now c.loop-t.out (task_line (schedule_in c.args.w.now)) _ c.loop-t.t c.requires.w_in_bounds (omega (arith, c.loop-t-test.true, c.tasks-n.ensures.0)) c.loop-t.invariant.1 c.loop-t.invariant.0 }

pub loop-t-preserved : goal.loop-t-preserved
loop-t-preserved c = (c.put_task-end.auto.out ∙ c.loop-t.invariant.0, tasks-more (task_line (schedule_in c.args.w.now)) _ (omega (arith, c.requires.w_in_bounds)) c.loop-t.invariant.1 c.put_task-end.ensures)

pub shape_of-out : goal.shape_of-out
shape_of-out c = c.loop-t.invariant.0

pub returns : goal.returns
returns c = tasks-all (task_line (schedule_in c.args.w.now)) _ _ c.loop-t.invariant.1 (omega (arith, c.loop-t.auto.t-end, c.tasks-n.ensures.0))
