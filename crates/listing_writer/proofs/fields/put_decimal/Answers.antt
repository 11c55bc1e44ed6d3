-- `listing_writer::fields::put_decimal` meets its contract.
use native.Mathlib.Omega.{arith}
use Rattle.listing_writer.proofs.Puts.{high-room, low-room, put-more}
use Rattle.listing_writer.proofs.fields.put_decimal.Goals as goal

pub put_short-end-requires : goal.put_short-end-requires
put_short-end-requires c = (omega arith, high-room c.args.out.now c.args.at c.args.n c.if-n-lt10000.false (omega (arith, c.ranges.n)) c.requires)

pub put_four-requires : goal.put_four-requires
put_four-requires c = (omega arith, low-room c.args.out.now c.args.at c.args.n c.if-n-lt10000.false (omega (arith, c.ranges.n)) c.requires _ c.put_short-end.auto.out c.put_short-end.ensures)

pub returns-then-n-lt100000000 : goal.returns-then-n-lt100000000
returns-then-n-lt100000000 c = put-more c.args.out.now c.args.at c.args.n c.if-n-lt10000.false (omega (arith, c.ranges.n)) c.requires _ c.put_short-end.ensures c.put_four.ensures
