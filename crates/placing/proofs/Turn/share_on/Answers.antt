-- `share_on` (src/lib.rt) keeps its contract.
use mathlib.Core.Path.{◌∙◌, sym}
use native.Mathlib.Omega.{arith}
use Rattle.folds.proofs.Laws.{first_found, first-none, none_first}
use Rattle.folds.proofs.Loops.{first-at, first-passed}
use Rattle.placing.proofs.Turn.share_on.Goals as goal

pub loop-k-init : goal.loop-k-init
loop-k-init c = none_first 0 _ (λ k l. absurd (omega arith))

pub may_share_on-requires : goal.may_share_on-requires
may_share_on-requires c = record { k_bound = omega (arith, c.loop-k-test.true, c.opened-n.ensures.1); bars = c.requires }

pub returns-then-may_share_on : goal.returns-then-may_share_on
returns-then-may_share_on c =
    let loop = c.loop-k in
    let opened = c.opened-n.ensures in
    (sym (first_found _ _ loop.k (first-none loop.k _ loop.invariant) (sym c.may_share_on.ensures ∙ c.if-may_share_on.true) (omega (arith, c.loop-k-test.true, opened.0))), omega (arith, c.loop-k-test.true, opened.1))

pub loop-k-preserved : goal.loop-k-preserved
loop-k-preserved c = let loop = c.loop-k in first-passed loop.k _ loop.invariant (sym c.may_share_on.ensures ∙ c.if-may_share_on.false)

pub returns : goal.returns
returns c = (first-at _ _ _ c.loop-k.invariant (omega (arith, c.loop-k.auto.k-end, c.loop-k-test.false, c.opened-n.ensures.0)), tt)
