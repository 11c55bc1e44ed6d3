-- `listing_writer::rows::plan_length` meets its contract.
use native.Mathlib.Omega.{arith}
use Rattle.schedule.specs.Layout.{schedule_in}
use Rattle.sheet.specs.Tables.{sheet_in}
use Rattle.listing_writer.proofs.Parts.{plan-length, digits_of}
use Rattle.listing_writer.proofs.rows.plan_length.Goals as goal

pub returns : goal.returns
returns c =
    let e = plan-length (sheet_in c.args.w.now) (schedule_in c.args.w.now) in
    let p = digits_of c.running.ensures.0 in
    let q = digits_of c.claim.ensures.0 in
    (omega (arith, e, p, q, c.digits.ensures.0, c.digits-2.ensures.0), omega (arith, c.digits.ensures.1, c.digits-2.ensures.1))
