-- `listing_writer::list_refusal` meets its contract.
use native.Mathlib.Omega.{arith}
use Rattle.listing_writer.proofs.Fits.{fit-short, fit-long}
use Rattle.listing_writer.proofs.list_refusal.Goals as goal

pub returns-then-out-need : goal.returns-then-out-need
returns-then-out-need c =
    rw c.at.ensures (fit-short _ _ _ c.refusal_length-need.ensures.0 (omega (arith, c.refusal_length-need.ensures.1)) c.if-out-need.true)

pub returns : goal.returns
returns c = fit-long _ _ _ c.refusal_length-need.ensures.0 (omega (arith, c.refusal_length-need.ensures.1)) c.if-out-need.false _ c.put_refusal.ensures
