-- `listing_writer::rows::put_schedule` meets its contract.
use native.Mathlib.Omega.{arith}
use Prim.Native.Nat.{◌≤◌}
use lib.ListN.{length}
use Rattle.listing.specs.Listing.{plan_line}
use Rattle.schedule.specs.Layout.{schedule_in}
use Rattle.sheet.specs.Tables.{sheet_in}
use Rattle.listing_writer.proofs.Parts.{schedule-length, schedule-put, schedule-room}
use Rattle.listing_writer.proofs.rows.put_schedule.Goals as goal

pub put_plan-at-requires : goal.put_plan-at-requires
put_plan-at-requires c =
    let s = sheet_in c.args.w.now in
    let σ = schedule_in c.args.w.now in
    let g : length (plan_line s σ) ≤ length c.args.out.now = omega (arith, c.requires.w_in_bounds, schedule-length s σ) in
    record { loaded = c.requires.loaded; standing = c.requires.standing; w_in_bounds = g }

pub put_tasks-requires : goal.put_tasks-requires
put_tasks-requires c = record { loaded = c.requires.loaded; w_in_bounds = schedule-room c.args.out.now c.put_plan-at.new.out (sheet_in c.args.w.now) (schedule_in c.args.w.now) c.requires.w_in_bounds c.put_plan-at.ensures c.put_plan-at.auto.out }

pub returns : goal.returns
returns c = schedule-put (sheet_in c.args.w.now) (schedule_in c.args.w.now) c.put_plan-at.ensures c.put_tasks.ensures
