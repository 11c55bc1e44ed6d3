-- `listing_writer::rows::put_task` meets its contract.
use native.Mathlib.Omega.{arith}
use lib.ListN.{length}
use Prim.Native.Nat.{◌+◌, ◌≤◌}
use Rattle.listing.specs.Listing.{decimal}
use Rattle.schedule.specs.Layout.{schedule_in}
use Rattle.listing_writer.proofs.Parts.{task-length, task-put, task-room, times-room}
use Rattle.listing_writer.proofs.rows.put_task.Goals as goal

pub put_decimal-next-requires : goal.put_decimal-next-requires
put_decimal-next-requires c = let g : c.args.at + length (decimal c.args.t) ≤ length c.args.out.now = omega (arith, c.requires.t_in_bounds, task-length (schedule_in c.args.w.now) c.args.t) in g

pub put_field-last-requires : goal.put_field-last-requires
put_field-last-requires c = task-room c.args.out.now (schedule_in c.args.w.now) c.args.t _ _ _ c.place-k.ensures.0 c.start-start.ensures.0 c.finish-finish.ensures.0 c.requires.t_in_bounds c.put_decimal-next.new.out c.put_decimal-next.ensures c.put_decimal-next.auto.out

pub put_fields-requires : goal.put_fields-requires
put_fields-requires c = times-room c.args.out.now (schedule_in c.args.w.now) c.args.t _ _ _ c.place-k.ensures.0 c.start-start.ensures.0 c.finish-finish.ensures.0 c.requires.t_in_bounds c.put_decimal-next.new.out c.put_field-last.new.out c.put_decimal-next.ensures c.put_decimal-next.auto.out c.put_field-last.ensures c.put_field-last.auto.out

pub returns : goal.returns
returns c = task-put (schedule_in c.args.w.now) c.args.t (omega (arith, c.requires.t_in_bounds)) c.place-k.ensures.0 c.start-start.ensures.0 c.finish-finish.ensures.0 c.put_decimal-next.ensures c.put_field-last.ensures c.put_fields.ensures
