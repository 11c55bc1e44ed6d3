-- `hops_from` (src/lib.rt) keeps its contract.
use native.Mathlib.Omega.{arith}
use Rattle.arrivals.proofs.Stepping.{halfway-none, halfway-more, row-end}
use borrow.Author.Rules.{rules}
use Rattle.arrivals.proofs.hops_from.Goals as goal

pub loop-k-init : goal.loop-k-init
loop-k-init c = halfway-none _ _ (search rules)

pub overflow_cast-r : goal.overflow_cast-r
overflow_cast-r c = omega (arith, c.hops.ensures.1)

pub loop-k-preserved : goal.loop-k-preserved
loop-k-preserved c = halfway-more c.loop-k.invariant c.loop-k-test.true c.hops.ensures.0

pub returns : goal.returns
returns c = row-end c.loop-k.invariant (omega arith)
