-- `starts_unpacked` (src/lib.rt) keeps its contract.
use native.Mathlib.Omega.{arith}
use Rattle.arrivals.proofs.Stepping.{halfway-none, halfway-more, halfway-end, halfway-soon}
use borrow.Author.Rules.{rules}
use Rattle.arrivals.proofs.starts_unpacked.Goals as goal

pub loop-k-init : goal.loop-k-init
loop-k-init c = halfway-none _ _ (search rules)

pub start_unpacked-requires : goal.start_unpacked-requires
start_unpacked-requires c =
    let p = c.requires in
    (halfway-soon c.loop-k.invariant c.loop-k-test.true p.0, p.1, p.2)

pub loop-k-preserved : goal.loop-k-preserved
loop-k-preserved c = halfway-more c.loop-k.invariant c.loop-k-test.true c.start_unpacked.ensures

pub returns : goal.returns
returns c = halfway-end c.loop-k.invariant (omega arith)
