-- `listing_writer::rows::refusal_length` meets its contract.
use native.Mathlib.Omega.{arith}
use Rattle.listing_writer.proofs.Parts.{refusal-length}
use Rattle.listing_writer.proofs.rows.refusal_length.Goals as goal

pub returns : goal.returns
returns c =
    let e = refusal-length c.args.number c.args.place in
    (omega (arith, e, c.digits.ensures.0, c.digits-2.ensures.0), omega (arith, c.digits.ensures.1, c.digits-2.ensures.1))
