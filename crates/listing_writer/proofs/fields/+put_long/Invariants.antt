-- `put_long` (src/fields.rt) keeps its contract: the digits of the 10,000th, and four behind them.
use Rattle.listing_writer.proofs.fields.+put_long.Given as goal

abbrev pub decreases-put_long : goal.decreases-put_long
decreases-put_long l = l.n
