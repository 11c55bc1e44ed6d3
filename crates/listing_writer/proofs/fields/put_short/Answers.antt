-- `listing_writer::fields::put_short` meets its contract.
use mathlib.Core.Path.{ap, sym}
use lib.ListN.{length, length-set}
use native.Mathlib.Omega.{arith}
use Rattle.numbers.proofs.Puts.{put_as}
use Rattle.listing_writer.proofs.Digits.{decimal-small, decimal-two, decimal-three, decimal-four}
use Rattle.listing_writer.proofs.Puts.{put-one-digit, put-two-digits, put-three-digits, four-room}
use Rattle.listing_writer.proofs.fields.put_short.Goals as goal

pub bounds-out-at : goal.bounds-out-at
bounds-out-at c = omega (arith, c.requires.1, ap length (decimal-small c.args.n c.if-n-lt10.true))

pub returns-then-n-lt10 : goal.returns-then-n-lt10
returns-then-n-lt10 c = put-one-digit c.args.out.now c.args.at c.args.n _ c.if-n-lt10.true c.requires.1 c.digit.ensures

pub bounds-out-at-then-n-lt100 : goal.bounds-out-at-then-n-lt100
bounds-out-at-then-n-lt100 c = omega (arith, c.requires.1, ap length (decimal-two c.args.n c.if-n-lt10.false c.if-n-lt100.true))

pub bounds-out-at-then-n-lt100-2 : goal.bounds-out-at-then-n-lt100-2
bounds-out-at-then-n-lt100-2 c = simp length-set (omega (arith, c.requires.1, ap length (decimal-two c.args.n c.if-n-lt10.false c.if-n-lt100.true)))

pub returns-then-n-lt100 : goal.returns-then-n-lt100
returns-then-n-lt100 c = put-two-digits c.args.out.now c.args.at c.args.n _ _ c.if-n-lt10.false c.if-n-lt100.true c.requires.1 c.digit-then-n-lt100.ensures c.digit-then-n-lt100-2.ensures

pub bounds-out-at-then-n-lt1000 : goal.bounds-out-at-then-n-lt1000
bounds-out-at-then-n-lt1000 c = omega (arith, c.requires.1, ap length (decimal-three c.args.n c.if-n-lt100.false c.if-n-lt1000.true))

pub bounds-out-at-then-n-lt1000-2 : goal.bounds-out-at-then-n-lt1000-2
bounds-out-at-then-n-lt1000-2 c = simp length-set (omega (arith, c.requires.1, ap length (decimal-three c.args.n c.if-n-lt100.false c.if-n-lt1000.true)))

pub bounds-out-at-then-n-lt1000-3 : goal.bounds-out-at-then-n-lt1000-3
bounds-out-at-then-n-lt1000-3 c = simp length-set (omega (arith, c.requires.1, ap length (decimal-three c.args.n c.if-n-lt100.false c.if-n-lt1000.true)))

pub returns-then-n-lt1000 : goal.returns-then-n-lt1000
returns-then-n-lt1000 c = put-three-digits c.args.out.now c.args.at c.args.n _ _ _ c.if-n-lt100.false c.if-n-lt1000.true c.requires.1 c.digit-then-n-lt1000.ensures c.digit-then-n-lt1000-2.ensures c.digit-then-n-lt1000-3.ensures

pub put_four-requires : goal.put_four-requires
put_four-requires c = (c.requires.0, four-room c.args.out.now c.args.at c.args.n c.if-n-lt1000.false c.requires.0 c.requires.1)

pub returns-else-n-lt1000 : goal.returns-else-n-lt1000
returns-else-n-lt1000 c = put_as (sym (decimal-four c.args.n c.if-n-lt1000.false c.requires.0)) c.put_four.ensures
