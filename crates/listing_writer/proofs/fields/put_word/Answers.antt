-- `listing_writer::fields::put_word` meets its contract.
use mathlib.Core.Path.{refl}
use native.Mathlib.Omega.{arith}
use Rattle.listing_writer.proofs.Puts.{word-put}
use Rattle.listing_writer.proofs.fields.put_word.Goals as goal

pub returns : goal.returns
returns c = record { left = word-put c.args.out.now c.args.word.now _ c.args.at _ c.copy_from_slice.ensures.after (omega arith); next = refl }
