-- `listing_writer::list_schedule` meets its contract.
use native.Mathlib.Omega.{arith}
use Rattle.listing_writer.proofs.Fits.{fit-enough}
use Rattle.listing_writer.proofs.list_schedule.Goals as goal

pub returns : goal.returns
returns c = fit-enough c.most.ensures.0 (omega (arith, c.most.ensures.1)) c.if-out-most.false c.put_schedule.ensures
