-- `starts_hopped` (src/lib.rt) keeps its contract.
use Prim.Native.Nat.{◌+◌}
use mathlib.Core.Path.{◌∙◌, ap}
use native.Mathlib.Omega.{arith}
use lib.ListN.{get_or}
use Rattle.arrivals.specs.Lanes.{start_unpacked, start_hopped}
use Rattle.arrivals.proofs.Stepping.{halfway-none, halfway-more, halfway-end, halfway-soon}
use borrow.Author.Rules.{rules}
use Rattle.arrivals.proofs.starts_hopped.Goals as goal

pub loop-k-init : goal.loop-k-init
loop-k-init c = halfway-none _ _ (search rules)

pub overflow_add-finish : goal.overflow_add-finish
overflow_add-finish c = record { fits = omega (arith, c.times-time.ensures.1, c.requires.1) }

pub start_unpacked-requires : goal.start_unpacked-requires
start_unpacked-requires c =
    let p = c.requires in
    (halfway-soon c.loop-k.invariant c.loop-k-test.true p.0, omega (arith, c.times-time.ensures.1, p.1), p.2)

pub loop-k-preserved : goal.loop-k-preserved
unfolding start_hopped
loop-k-preserved c =
    let a = c.args in
    let k = c.loop-k.k in
    halfway-more c.loop-k.invariant c.loop-k-test.true
    (c.start_unpacked.ensures ∙ ap (λ n. start_unpacked a.source (a.finish + n) a.unpacking k (get_or c.loop-k.r.at k 0)) c.times-time.ensures.0)

pub returns : goal.returns
returns c = halfway-end c.loop-k.invariant (omega arith)
