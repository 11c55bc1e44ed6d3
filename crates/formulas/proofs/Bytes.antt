-- Bytes and their kinds.
use Prim.Native.Nat.{ℕ, ◌+◌, ◌-◌, ◌≤◌, ◌<◌}
use native.Mathlib.Omega.{arith}
use mathlib.Core.Path.{◌≡◌, refl, sym, subst, ◌∙◌}
use mathlib.Core.Bool.{Bool, true, false}
use lib.Dec.{leb, eqb, ltb}
use borrow.Author.Tests.{leb-true, eqb-true, lt-ltb, eq-eqb, le-leb, ltb-true}
use mathlib.Core.List.{List}
use lib.ListN.{length, get_or}
use native.Mathlib.Decide.{dec_lt}
use x.{}
use Rattle.folds.specs.Folds.{pick, both}
use Rattle.folds.proofs.Tests.{both-parts}
use Rattle.formulas.specs.Grammar.{Kind, digit, small, adds, multiplies, opens, shuts, other, kind_of, within, closer, first_digit, first_letter, last_digit, last_letter, opener, plus_sign, times_sign, most_digits, is_digit, is_letter}
use Rattle.formulas.specs.Parts.{stands_at, digit_at}

abbrev pub Match : Kind → ℕ → Type 0
Match digit c = (first_digit ≤ c) × (c ≤ last_digit)
Match small c = (first_letter ≤ c) × (c ≤ last_letter)
Match adds c = c ≡ plus_sign
Match multiplies c = c ≡ times_sign
Match opens c = c ≡ opener
Match shuts c = c ≡ closer
Match other c = Unit {0}

by-test : (P : Kind → Type 0) (t : Bool) (x y : Kind) → (t ≡ true → P x) → (t ≡ false → P y) → P (pick t x y)
by-test P true x y f g = f refl
by-test P false x y f g = g refl

range : (low high c : ℕ) → within low high c ≡ true → (low ≤ c) × (c ≤ high)
range low high c e = let h = both-parts (leb low c) (leb c high) e in (leb-true low c h.0, leb-true c high h.1)

pub matches : (c : ℕ) → Match (kind_of c) c
unfolding kind_of
matches c =
    let P : Kind → Type 0 = λ (k : Kind). Match k c in
    by-test P _ _ _ (λ e. range first_digit last_digit c e) (λ _. by-test P _ _ _ (λ e. range first_letter last_letter c e) (λ _. by-test P _ _ _ (λ e. eqb-true c plus_sign e) (λ _. by-test P _ _ _ (λ e. eqb-true c times_sign e) (λ _. by-test P _ _ _ (λ e. eqb-true c opener e) (λ _. by-test P _ _ _ (λ e. eqb-true c closer e) (λ _. tt))))))

-- bytes by the code's tests
pub true-not-false : ◌≡◌ {A = Bool} true false → ⊥
true-not-false e = let z : ◌≡◌ {A = ℕ} 0 1 = cc in omega arith

pub is_digit_lem : (c : ℕ) → is_digit c ≡ true → kind_of c ≡ digit
unfolding kind_of
is_digit_lem c e = rw e

pub is-small : (c : ℕ) → is_digit c ≡ false → is_letter c ≡ true → kind_of c ≡ small
unfolding kind_of
is-small c d e = rw (d, e)

pub not_digit : (c : ℕ) → is_digit c ≡ false → kind_of c ≡ digit → ⊥
not_digit c e q =
    let m : Match digit c = subst (λ (d : Kind). Match d c) q (matches c) in
    let f : is_digit c ≡ true = simp (le-leb first_digit c m.0, le-leb c last_digit m.1) in
    true-not-false (sym f ∙ e)

pub not-small : (c : ℕ) → is_letter c ≡ false → kind_of c ≡ small → ⊥
not-small c e q =
    let m : Match small c = subst (λ (d : Kind). Match d c) q (matches c) in
    let f : is_letter c ≡ true = simp (le-leb first_letter c m.0, le-leb c last_letter m.1) in
    true-not-false (sym f ∙ e)

pub not-kind : (d : Kind) (c : ℕ) → (Match d c → ⊥) → kind_of c ≡ d → ⊥
not-kind d c h q = h (subst (λ (x : Kind). Match x c) q (matches c))

pub digit-range : (c : ℕ) → is_digit c ≡ true → (first_digit ≤ c) × (c ≤ last_digit)
digit-range c e = range first_digit last_digit c e

pub letter-range : (c : ℕ) → is_letter c ≡ true → (first_letter ≤ c) × (c ≤ last_letter)
letter-range c e = range first_letter last_letter c e

-- the byte c stands at i, or it does not
module _ (b : List ℕ) (i c : ℕ) where
  pub stands-true : stands_at b i c ≡ true → (i < length b) × (get_or b i 0 ≡ c)
  stands-true e = let h = both-parts (ltb i (length b)) (eqb (get_or b i 0) c) e in (ltb-true i (length b) h.0, eqb-true (get_or b i 0) c h.1)

  pub stands-false : stands_at b i c ≡ false → i < length b → get_or b i 0 ≡ c → ⊥
  stands-false e l q = true-not-false (sym (simp (lt-ltb i (length b) l, eq-eqb (get_or b i 0) c q)) ∙ e)

  -- what is left behind it is shorter
  pub further : (at : ℕ) → at < i → stands_at b i c ≡ true → length b - (i + 1) < length b - at
  further at l e = omega (arith, stands-true e)

-- a digit stands at i, with fewer than ten from `from` on before it, or it does not
module _ (b : List ℕ) (from i : ℕ) where
  pub digit-true : digit_at b from i ≡ true → (i < length b) × (i - from < most_digits) × (is_digit (get_or b i 0) ≡ true)
  digit-true e =
      let h = both-parts (ltb i (length b)) (both (ltb (i - from) most_digits) (is_digit (get_or b i 0))) e in
      let k = both-parts (ltb (i - from) most_digits) (is_digit (get_or b i 0)) h.1 in
      (ltb-true i (length b) h.0, ltb-true (i - from) most_digits k.0, k.1)

  pub digit-false : digit_at b from i ≡ false → i < length b → kind_of (get_or b i 0) ≡ digit → most_digits ≤ i - from
  digit-false e l q = go (dec_lt (i - from) most_digits)
    where
      go : Dec (i - from < most_digits) → most_digits ≤ i - from
      go (no h) = omega arith
      go (yes h) = absurd (not_digit (get_or b i 0) (sym (simp (lt-ltb i (length b) l, lt-ltb (i - from) most_digits h)) ∙ e) q)

-- a number may always have its first digit
pub digit-first : (b : List ℕ) (at : ℕ) → at < length b → is_digit (get_or b at 0) ≡ true → digit_at b at at ≡ true
digit-first b at l e = let z : at - at < most_digits = omega arith in simp (lt-ltb at (length b) l, lt-ltb (at - at) most_digits z, e)
