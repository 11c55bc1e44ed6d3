-- `digits` (src/fields.rt) keeps its contract: each call has one digit less.
use Rattle.listing_writer.proofs.Digits.{decimal-small, length-large, decimal-length}
use lib.ListN.{length}
use mathlib.Core.Path.{sym, ap}
use native.Mathlib.Omega.{arith}
use Rattle.listing_writer.proofs.fields.+digits.Goals as goal

pub returns-then-n-lt10 : goal.returns-then-n-lt10
returns-then-n-lt10 t c = (sym (ap length (decimal-small _ c.if-n-lt10.true)), omega arith)

pub digits-requires : goal.digits-requires
digits-requires t c = (omega (arith, c.decreases), tt)

pub overflow_add-result : goal.overflow_add-result
overflow_add-result t c = omega (arith, c.digits.ensures.1)

pub returns-else-n-lt10 : goal.returns-else-n-lt10
returns-else-n-lt10 t c =
    let n = c.args.n in
    let e = length-large n c.if-n-lt10.false (omega (arith, c.ranges.n)) in
    (omega (arith, c.digits.ensures.0, e), omega (arith, c.digits.ensures.0, e, decimal-length n))
