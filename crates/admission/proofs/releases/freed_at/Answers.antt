-- `freed_at` (src/releases.rt) keeps its contract.
use borrow.Author.Tests.{eq-eqb, ne_eqb}
use native.Mathlib.Omega.{arith}
use Rattle.admission.specs.Lasts.{free_at}
use borrow.Author.Rules.{rules}
use Rattle.admission.proofs.releases.freed_at.Goals as goal

pub returns-then-bundle-at-eq70 : goal.returns-then-bundle-at-eq70
unfolding free_at
returns-then-bundle-at-eq70 c = (simp (eq-eqb _ _ c.if-bundle-at-eq70.true, c.from.ensures), omega (arith, c.from.ensures))

pub returns-else-bundle-at-eq70 : goal.returns-else-bundle-at-eq70
unfolding free_at
returns-else-bundle-at-eq70 c = (simp (ne_eqb _ _ c.if-bundle-at-eq70.false, c.from-else-bundle-at-eq70.ensures, c.get16.ensures), search rules)
