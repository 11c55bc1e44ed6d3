-- `feeds` (src/walking.rt) keeps its contract.
use native.Mathlib.Omega.{arith}
use mathlib.Core.Path.{sym, ◌∙◌}
use Rattle.search.proofs.Steps.{none-first-of, none_more, feeds-one, feeds-none}
use Rattle.search.proofs.walking.feeds.Goals as goal

pub loop-l-init : goal.loop-l-init
loop-l-init c = none-first-of _ _ _

pub feeds_by-requires : goal.feeds_by-requires
feeds_by-requires c = (c.requires, omega (arith, c.loop-l-test.true))

pub returns-then-feeds_by : goal.returns-then-feeds_by
returns-then-feeds_by c = feeds-one _ _ _ _ _ _ (omega (arith, c.loop-l-test.true)) c.feeds_by.ensures c.if-feeds_by.true

pub loop-l-preserved : goal.loop-l-preserved
loop-l-preserved c = none_more _ _ _ (omega (arith, c.loop-l-test.true)) c.loop-l.invariant (λ s k. sym (c.feeds_by.ensures.is s k) ∙ c.if-feeds_by.false)

pub returns : goal.returns
returns c = feeds-none _ _ _ _ _ _ (omega (arith, c.loop-l-test.false)) c.loop-l.invariant
