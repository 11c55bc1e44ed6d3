-- `listing_writer::fields::put_end` meets its contract.
use Rattle.numbers.proofs.Puts.{put_one}
use Rattle.listing_writer.proofs.fields.put_end.Goals as goal

pub returns : goal.returns
returns c = put_one _ _ _ c.requires
