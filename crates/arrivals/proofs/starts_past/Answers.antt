-- `starts_past` (src/lib.rt) keeps its contract.
use native.Mathlib.Omega.{arith}
use Rattle.arrivals.proofs.Stepping.{halfway-none, halfway-more, halfway-end}
use borrow.Author.Rules.{rules}
use Rattle.arrivals.proofs.starts_past.Goals as goal

pub loop-k-init : goal.loop-k-init
loop-k-init c = halfway-none _ _ (search rules)

pub loop-k-preserved : goal.loop-k-preserved
loop-k-preserved c = halfway-more c.loop-k.invariant c.loop-k-test.true c.start_past.ensures

pub returns : goal.returns
returns c = halfway-end c.loop-k.invariant (omega arith)
