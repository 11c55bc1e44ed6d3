-- `listing_writer::list_counted` meets its contract.
use Rattle.listing_writer.proofs.Fits.{fit-short, fit-long}
use Rattle.listing_writer.proofs.list_counted.Goals as goal

pub returns-then-out-need : goal.returns-then-out-need
returns-then-out-need c =
    rw c.at.ensures (fit-short _ _ _ c.needed-need.ensures.0 c.needed-need.ensures.1 c.if-out-need.true)

pub returns : goal.returns
returns c = fit-long _ _ _ c.needed-need.ensures.0 c.needed-need.ensures.1 c.if-out-need.false _ c.put_schedule.ensures
