-- `key` (src/walking.rt) keeps its contract.
use native.Mathlib.Omega.{arith}
use Rattle.search.proofs.Steps.{none-first-of, none_more, not-to, key-receive, key-run}
use Rattle.search.proofs.walking.key.Goals as goal

pub loop-l-init : goal.loop-l-init
loop-l-init c = none-first-of _ _ _

pub end_of-requires : goal.end_of-requires
end_of-requires c = omega (arith, c.loop-l-test.true, c.requires.0.links)

pub overflow_add-result : goal.overflow_add-result
overflow_add-result c = omega (arith, c.loop-l-test.true, c.requires.0.links)

pub returns-then-end_of-t : goal.returns-then-end_of-t
returns-then-end_of-t c = key-receive _ _ _ _ _ c.requires.0.links (omega (arith, c.loop-l-test.true)) c.loop-l.invariant c.end_of.ensures (omega (arith, c.if-end_of-t.true))

pub loop-l-preserved : goal.loop-l-preserved
loop-l-preserved c = none_more _ _ _ (omega (arith, c.loop-l-test.true)) c.loop-l.invariant (not-to _ _ _ _ (omega (arith, c.loop-l-test.true)) c.end_of.ensures (λ q. omega (arith, c.if-end_of-t.false)))

pub returns : goal.returns
returns c = key-run _ _ _ _ c.requires.1 (omega (arith, c.loop-l-test.false)) c.loop-l.invariant
