-- `listing_writer::fields::put_field` meets its contract.
use Rattle.numbers.proofs.Puts.{put_one, put_then}
use lib.ListN.{length-set}
use native.Mathlib.Omega.{arith}
use Rattle.listing_writer.proofs.fields.put_field.Goals as goal

pub put_decimal-requires : goal.put_decimal-requires
put_decimal-requires c = simp length-set (omega arith)

pub shape_of-out : goal.shape_of-out
shape_of-out c = simp length-set at c.put_decimal.auto.out

pub returns : goal.returns
returns c = put_then (omega arith) (put_one c.args.out.now c.args.at 0x20 (omega arith)) c.put_decimal.ensures
