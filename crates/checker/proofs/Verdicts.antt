-- An answer by the checker's verdict.
use mathlib.Core.Path.{◌≡◌}
use Rattle.folds.specs.Answers.{Answer, value, refused}
use Rattle.bundle.specs.Bundle.{Bundle}
use Rattle.checker.specs.Verdicts.{verdict_of}
use Rattle.std.specs.Prelude.{⊤, Ok, Err}
use Rattle.refusals.proofs.Results.{refused-by, value-by}
use Rattle.refusals.specs.declared.Refusal.{Refusal}

pub good-value : (a : Answer Bundle) → Ok tt ≡ verdict_of a → (b : Bundle) × (a ≡ value b)
good-value a e = let v = value-by {A = Bundle} {T = ⊤} (λ b. tt) a tt e in (v.x, v.value)

pub refused-value : (a : Answer Bundle) (r : Refusal) → Err r ≡ verdict_of a → a ≡ refused r.number r.place
refused-value a r e = refused-by {A = Bundle} {T = ⊤} (λ b. tt) a r e
