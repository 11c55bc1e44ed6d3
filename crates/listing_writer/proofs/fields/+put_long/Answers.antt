-- `put_long` (src/fields.rt) keeps its contract: the digits of the 10,000th, and four behind them.
use Rattle.listing_writer.proofs.Puts.{high-room, low-room, put-more}
use mathlib.Core.Path.{◌∙◌}
use native.Mathlib.Omega.{arith}
use Rattle.listing_writer.proofs.fields.+put_long.Goals as goal

pub put_short-requires : goal.put_short-requires
put_short-requires t c = (c.if-n-lt10000.true, c.requires)

pub shape_of-out-then-n-lt10000 : goal.shape_of-out-then-n-lt10000
shape_of-out-then-n-lt10000 t c = c.put_short.auto.out

pub returns-then-n-lt10000 : goal.returns-then-n-lt10000
returns-then-n-lt10000 t c = c.put_short.ensures

pub put_long-end-requires : goal.put_long-end-requires
put_long-end-requires t c = (omega (arith, c.decreases), high-room c.args.out.now c.args.at c.args.n c.if-n-lt10000.false (omega (arith, c.ranges.n)) c.requires)

pub put_four-requires : goal.put_four-requires
put_four-requires t c = (omega arith, low-room c.args.out.now c.args.at c.args.n c.if-n-lt10000.false (omega (arith, c.ranges.n)) c.requires _ c.put_long-end.auto.out c.put_long-end.ensures)

pub shape_of-out-else-n-lt10000 : goal.shape_of-out-else-n-lt10000
shape_of-out-else-n-lt10000 t c = c.put_four.auto.out ∙ c.put_long-end.auto.out

pub returns-else-n-lt10000 : goal.returns-else-n-lt10000
returns-else-n-lt10000 t c = put-more c.args.out.now c.args.at c.args.n c.if-n-lt10000.false (omega (arith, c.ranges.n)) c.requires _ c.put_long-end.ensures c.put_four.ensures
