-- How an arrangement is judged by the checker's answer to its bundle with the claim 0: 30 at c means that it is accepted with the claim c, any other refusal that it
-- is not.
use Prim.Native.Nat.{ℕ}
use native.Mathlib.Omega.{arith}
use mathlib.Core.Bool.{Bool, true, false}
use mathlib.Core.Option.{Option, none, some}
use mathlib.Core.Path.{◌≡◌, refl, sym, ap, ◌∙◌}
use mathlib.Core.Logic.{◌≢◌, ◌⊎◌, inl, inr, ⊎_elim}
use mathlib.Core.List.{List}
use lib.Dec.{eqb}
use borrow.Author.Tests.{eqb-true, eq-eqb}
use Rattle.folds.specs.Folds.{pick}
use Rattle.folds.specs.Answers.{Answer, value, refused, unless, unless_at}
use Rattle.folds.proofs.Tests.{not-value}
use Rattle.sheet.specs.Sheet.{Sheet}
use Rattle.bundle.specs.Bundle.{Bundle, programme_count, programme_of}
use Rattle.admission.specs.Counting.{whole_of, whole}
use Rattle.admission.specs.Releases.{at37}
use Rattle.admission.specs.Messages.{not_once, holds, home, inside, send_fault, receive_fault, order_fault, message_fault, over_store, at26, at_message, at28}
use Rattle.admission.proofs.Splits.{message-number}
use Rattle.machine.specs.Runs.{latest, settled}
use Rattle.checker.specs.Checker.{unfinished, at29, at30, closing, checked}
use Rattle.least.specs.Written.{programmes_in}
use Rattle.least.specs.Least.{unclaimed, bundle_in, is_value}
use Rattle.least.proofs.Arranging.{same-settled}
use Rattle.least.proofs.Best.{Works}

-- tests in front of an answer: they let every answer through, or refuse with a number other than 30
abbrev Front : (Answer Bundle → Answer Bundle) → Type 0
Front f = ((r : Answer Bundle) → f r ≡ r) ⊎ ((n : ℕ) × (at : ℕ) × (n ≢ 30) × ((r : Answer Bundle) → f r ≡ refused n at))

one-front : (n : ℕ) → n ≢ 30 → (o : Option ℕ) → Front (unless n o)
one-front n d none = inl (λ r. refl)
one-front n d (some at) = inr (n, at, d, λ r. refl)

pair-front : (o : Option (ℕ × ℕ)) → ((n at : ℕ) → o ≡ some (n, at) → n ≢ 30) → Front (unless_at o)
pair-front none d = inl (λ r. refl)
pair-front (some x) d = inr (x.0, x.1, d x.0 x.1 refl, λ r. refl)

front-then : (f g : Answer Bundle → Answer Bundle) → Front f → Front g → Front (λ r. f (g r))
front-then f g x y =
    ⊎_elim (λ p. ⊎_elim (λ q. inl (λ r. p (g r) ∙ q r)) (λ q. inr (q.0, q.1, q.2, λ r. p (g r) ∙ q.3 r)) y) (λ p. inr (p.0, p.1, p.2, λ r. p.3 (g r))) x

module _ (s : Sheet) (a : List (List ℕ)) where
  -- the arrangement's bundle with the claim 0, its latest clock, and all tests before 30
  abbrev bare : Bundle
  bare = unclaimed s a

  abbrev clock : ℕ
  clock = latest (settled s bare)

  unfoldable tests : Answer Bundle → Answer Bundle
  tests r = unless 26 (at26 s bare) (unless_at (at_message s bare) (unless 37 (at37 s bare) (unless 28 (at28 s bare) (unless 29 (at29 bare (settled s bare)) r))))

  front : Front tests
  unfolding tests
  front =
      front-then (unless 26 (at26 s bare)) _ (one-front 26 (omega arith) (at26 s bare))
      (front-then (unless_at (at_message s bare)) _ (pair-front (at_message s bare) (λ n at e q. omega (arith, message-number s bare n at e)))
      (front-then (unless 37 (at37 s bare)) _ (one-front 37 (omega arith) (at37 s bare))
      (front-then (unless 28 (at28 s bare)) (unless 29 (at29 bare (settled s bare))) (one-front 28 (omega arith) (at28 s bare)) (one-front 29 (omega arith) (at29 bare (settled s bare))))))

  checked-bare : checked s bare ≡ tests (unless 30 (pick (eqb 0 clock) none (some clock)) (value bare))
  unfolding checked closing at30 tests
  checked-bare = refl

  checked-in : checked s (bundle_in s a) ≡ tests (value (bundle_in s a))
  unfolding checked closing at30 tests bundle_in at26 not_once at_message message_fault send_fault receive_fault order_fault inside home holds at37 at28 over_store at29 unfinished whole whole_of programme_count programme_of
  checked-in = rw (same-settled s (programmes_in s a) clock 0, eq-eqb clock clock refl)

  -- 30 at c: accepted, with the claim c
  pub leaf-30 : (c : ℕ) → checked s bare ≡ refused 30 c → Works s a × ((bundle_in s a).claim ≡ c)
  unfolding bundle_in
  leaf-30 c e =
      ⊎_elim (λ p. (ap is_value (checked-in ∙ p (value (bundle_in s a))), place (eqb 0 clock) (sym (p _) ∙ sym checked-bare ∙ e)))
      (λ p. absurd (p.2 (let z : ◌≡◌ {A = Answer Bundle} (refused p.0 p.1) (refused 30 c) = sym (p.3 _) ∙ sym checked-bare ∙ e in cc))) front
    where
      place : (t : Bool) → unless 30 (pick t none (some clock)) (value bare) ≡ refused 30 c → clock ≡ c
      place true f = not-value (sym f)
      place false f = cc

  -- no refusal: accepted, with the claim 0
  pub leaf-good : (v : Bundle) → checked s bare ≡ value v → Works s a × ((bundle_in s a).claim ≡ 0)
  unfolding bundle_in
  leaf-good v e =
      ⊎_elim (λ p. (ap is_value (checked-in ∙ p (value (bundle_in s a))), place (eqb 0 clock) refl (sym (p _) ∙ sym checked-bare ∙ e)))
      (λ p. not-value (sym (p.3 _) ∙ sym checked-bare ∙ e)) front
    where
      place : (t : Bool) → eqb 0 clock ≡ t → unless 30 (pick t none (some clock)) (value bare) ≡ value v → clock ≡ 0
      place true q f = sym (eqb-true 0 clock q)
      place false q f = not-value f

  -- any other refusal: not accepted
  pub leaf-no : (n at : ℕ) → checked s bare ≡ refused n at → n ≢ 30 → is_value (checked s (bundle_in s a)) ≡ false
  leaf-no n at e d =
      ⊎_elim (λ p. absurd (other (eqb 0 clock) (sym (p _) ∙ sym checked-bare ∙ e)))
      (λ p. ap is_value (checked-in ∙ p.3 (value (bundle_in s a)))) front
    where
      other : (t : Bool) → unless 30 (pick t none (some clock)) (value bare) ≡ refused n at → ⊥
      other true f = not-value (sym f)
      other false f = d (cc)
