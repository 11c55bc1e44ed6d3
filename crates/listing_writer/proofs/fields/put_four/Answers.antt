-- `listing_writer::fields::put_four` meets its contract.
use lib.ListN.{length-set}
use native.Mathlib.Omega.{arith}
use Rattle.listing_writer.proofs.Puts.{put-four-digits}
use Rattle.listing_writer.proofs.fields.put_four.Goals as goal

pub bounds-out-at-2 : goal.bounds-out-at-2
bounds-out-at-2 c = simp length-set (omega arith)

pub bounds-out-at-3 : goal.bounds-out-at-3
bounds-out-at-3 c = simp length-set (omega arith)

pub bounds-out-at-4 : goal.bounds-out-at-4
bounds-out-at-4 c = simp length-set (omega arith)

pub returns : goal.returns
returns c = put-four-digits c.args.out.now c.args.at c.args.n _ _ _ _ c.requires.1 c.digit.ensures c.digit-2.ensures c.digit-3.ensures c.digit-4.ensures
