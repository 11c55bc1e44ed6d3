-- `has_release` (src/inserting.rt) keeps its contract.
use mathlib.Core.Path.{◌∙◌, ap}
use native.Mathlib.Omega.{arith}
use Rattle.bundle.specs.Kinds.{size_by}
use Rattle.admission.proofs.Passes.{size-between}
use Rattle.releasing.proofs.Finding.{finding-starts, finding-found, finding-on, finding-ends}
use Rattle.releasing.proofs.inserting.has_release.Goals as goal

pub loop-at-init : goal.loop-at-init
loop-at-init c = finding-starts _

pub bounds-bundle-at : goal.bounds-bundle-at
bounds-bundle-at c = omega (arith, c.saturating_sub-end.ensures)

pub returns-then-c-lt80 : goal.returns-then-c-lt80
returns-then-c-lt80 c = finding-found _ c.saturating_sub-end.ensures c.loop-at.invariant c.loop-at-test.true c.if-c-lt80.true

pub overflow_add-at : goal.overflow_add-at
overflow_add-at c = omega (arith, c.size_of-at.ensures, size-between c.from.result, c.saturating_sub-end.ensures, c.loop-at-test.true)

pub loop-at-smaller : goal.loop-at-smaller
loop-at-smaller c = omega (arith, c.size_of-at.ensures, size-between c.from.result, c.loop-at-test.true)

pub loop-at-preserved : goal.loop-at-preserved
loop-at-preserved c =
    finding-on _ c.saturating_sub-end.ensures c.loop-at.invariant c.loop-at-test.true (λ q. omega (arith, q, c.if-c-lt80.false)) _ (c.size_of-at.ensures ∙ ap size_by c.from.ensures)

pub returns : goal.returns
returns c = finding-ends _ c.saturating_sub-end.ensures c.loop-at.invariant c.loop-at-test.false
