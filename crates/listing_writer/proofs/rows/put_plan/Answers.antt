-- `listing_writer::rows::put_plan` meets its contract.
use native.Mathlib.Omega.{arith}
use lib.ListN.{length}
use Prim.Native.Nat.{◌≤◌}
use Rattle.schedule.specs.Layout.{schedule_in}
use Rattle.sheet.specs.Tables.{sheet_in}
use Rattle.listing_writer.proofs.Parts.{plan-length, plan-put, plan-room}
use Rattle.listing_writer.proofs.rows.put_plan.Goals as goal

pub put_word-at-requires : goal.put_word-at-requires
put_word-at-requires c = let g : 4 ≤ length c.args.out.now = omega (arith, c.requires.w_in_bounds, plan-length (sheet_in c.args.w.now) (schedule_in c.args.w.now)) in g

pub put_fields-requires : goal.put_fields-requires
put_fields-requires c = plan-room c.args.out.now c.put_word-at.new.out (sheet_in c.args.w.now) (schedule_in c.args.w.now) _ _ c.running-found.ensures.0 c.claim-claim.ensures.0 c.requires.w_in_bounds c.put_word-at.ensures c.put_word-at.auto.out

pub returns : goal.returns
returns c = plan-put (sheet_in c.args.w.now) (schedule_in c.args.w.now) c.running-found.ensures.0 c.claim-claim.ensures.0 c.put_word-at.ensures c.put_fields.ensures
