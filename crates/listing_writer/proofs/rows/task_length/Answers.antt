-- `listing_writer::rows::task_length` meets its contract.
use native.Mathlib.Omega.{arith}
use Rattle.schedule.specs.Layout.{schedule_in}
use Rattle.listing_writer.proofs.Parts.{task-length, digits_of}
use Rattle.listing_writer.proofs.rows.task_length.Goals as goal

pub returns : goal.returns
returns c =
    let e = task-length (schedule_in c.args.w.now) c.args.t in
    let p = digits_of c.place.ensures.0 in
    let q = digits_of c.start.ensures.0 in
    let r = digits_of c.finish.ensures.0 in
    (omega (arith, e, p, q, r, c.digits-k.ensures.0, c.digits-a.ensures.0, c.digits-b.ensures.0, c.digits.ensures.0), omega (arith, c.digits-k.ensures.1, c.digits-a.ensures.1, c.digits-b.ensures.1, c.digits.ensures.1))
