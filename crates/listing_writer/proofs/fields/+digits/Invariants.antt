-- `digits` (src/fields.rt) keeps its contract: each call has one digit less.
use Rattle.listing_writer.proofs.fields.+digits.Given as goal

abbrev pub decreases-digits : goal.decreases-digits
decreases-digits l = l.n
