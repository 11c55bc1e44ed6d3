-- `may_open` (src/walking.rt) keeps its contract.
use native.Mathlib.Omega.{arith}
use mathlib.Core.Logic.{⊎_elim}
use mathlib.Core.Path.{◌∙◌}
use borrow.Author.Tests.{le-ltb}
use Rattle.search.proofs.Steps.{no-processor, no-rise, fits-open}
use Rattle.search.proofs.walking.may_open.Goals.{then-b-v, else-b-v}
use Rattle.search.proofs.walking.may_open.Goals as goal

pub returns-then-b-a : goal.returns-then-b-a
returns-then-b-a c = fits-open c.requires.1 c.requires.0 c.requires.2 (omega (arith, c.requires.3, c.requires.0.tasks)) c.if-b-a.true.0 c.if-b-a.true.1

pub returns-else-b-a : goal.returns-else-b-a
returns-else-b-a c =
    elim c.if-b-v.branch [
      | then-b-v w ↦
          rw (w.t-7-is ∙ le-ltb _ _ (⊎_elim (λ p. p.1) (λ n. absurd (omega arith)) c.if-b-a.either))
          (no-rise c.requires.1 c.requires.0 c.requires.2 (omega (arith, c.requires.3, c.requires.0.tasks)) w.if-b-v.true (⊎_elim (λ p. p.1) (λ n. absurd (omega arith)) c.if-b-a.either))
      | else-b-v w ↦
          rw (w.t-7-is ∙ le-ltb _ _ w.if-b-v.false) (no-processor c.requires.1 c.requires.0 c.requires.2 (omega (arith, c.requires.3, c.requires.0.tasks)) w.if-b-v.false)
    ]
