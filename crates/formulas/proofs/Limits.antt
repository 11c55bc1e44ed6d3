-- Numbers up to a limit.
use Prim.Native.Nat.{ℕ, zero, suc, ◌+◌, ◌*◌, ◌-◌, ◌^◌, ◌≤◌, ◌<◌}
use native.Mathlib.Omega.{arith}
use native.Mathlib.Nat.{mul-le-mul, one-mul, zero-add, pow-suc, pow-le-pow_right}
use mathlib.Core.Path.{◌≡◌, refl, ap, ◌∙◌}
use mathlib.Core.Bool.{Bool, true, false}
use mathlib.Core.Option.{Option, none, some}
use mathlib.Core.List.{List, [], ◌∷◌, ◌++◌}
use lib.ListN.{length, get_or}
use lib.Dec.{leb}
use native.Mathlib.Numerals.{add-one}
use borrow.Author.Tests.{leb-true}
use x.{}
use Rattle.folds.specs.Folds.{pick, both}
use Rattle.folds.proofs.Tests.{both-parts}
use Rattle.formulas.specs.Grammar.{Sum, Product, Atom, first_digit, most_digits}
use Rattle.formulas.specs.Scanning.{times_to, plus_to}
use Rattle.formulas.specs.Values.{capped, capped_by, decimal, sum_value, product_value, atom_value, greatest_value}
use Rattle.formulas.proofs.Bytes.{true-not-false}

-- two values, or not
module _ (f : ℕ → ℕ → ℕ) (a b : ℕ) where
  pub of_values : both (leb a greatest_value) (leb b greatest_value) ≡ true → capped (f a b) ≡ capped_by f (capped a) (capped b)
  of_values h = let m = both-parts (leb a greatest_value) (leb b greatest_value) h in rw (m.0, m.1)

  pub of_none : both (leb a greatest_value) (leb b greatest_value) ≡ false → none ≡ capped_by f (capped a) (capped b)
  of_none h = go (leb a greatest_value) (leb b greatest_value) h
    where
      go : (t u : Bool) → both t u ≡ false → none ≡ capped_by f (pick t (some a) none) (pick u (some b) none)
      go true true q = absurd (true-not-false q)
      go true false q = refl
      go false u q = refl

pub values-are : (a b : ℕ) → both (leb a greatest_value) (leb b greatest_value) ≡ true → (a ≤ greatest_value) × (b ≤ greatest_value)
values-are a b h = let m = both-parts (leb a greatest_value) (leb b greatest_value) h in (leb-true a greatest_value m.0, leb-true b greatest_value m.1)

pub product-fits : (a b : ℕ) → a ≤ greatest_value → b ≤ greatest_value → a * b < 2 ^ 64
product-fits a b ha hb = omega (arith, mul-le-mul ha hb)

pub get_d_past : (l : List ℕ) (i : ℕ) → length l ≤ i → get_or l i 0 ≡ 0
get_d_past [] zero h = refl
get_d_past [] (suc i) h = refl
get_d_past (x ∷ l) zero h = absurd (omega arith)
get_d_past (x ∷ l) (suc i) h = get_d_past l i (omega arith)

-- the value of what stands before a product: of nothing, 0; before a factor, 1
abbrev pub Before : Option Sum → List ℕ → ℕ → Type 0
Before none ls v = v ≡ 0
Before (some s) ls v = capped v ≡ sum_value s ls

abbrev pub Factors : Option Product → List ℕ → ℕ → Type 0
Factors none ls v = v ≡ 1
Factors (some p) ls v = capped v ≡ product_value p ls

from-unit : (f : ℕ → ℕ → ℕ) (u w : ℕ) → capped u ≡ some u → ((x : ℕ) → f u x ≡ x) → capped_by f (capped u) (capped w) ≡ capped w
from-unit f u w e id = rw e (go (leb w greatest_value) refl)
  where
    go : (t : Bool) → leb w greatest_value ≡ t → capped_by f (some u) (pick t (some w) none) ≡ pick t (some w) none
    go true q = rw (id w, q)
    go false q = refl

pub plus-value : (o : Option Sum) (p : Product) (ls : List ℕ) (v w r : ℕ) → Before o ls v → capped w ≡ product_value p ls → capped r ≡ capped_by ◌+◌ (capped v) (capped w) →
    capped r ≡ sum_value (plus_to o p) ls
plus-value none p ls v w r h e q = q ∙ ap (λ (x : ℕ). capped_by ◌+◌ (capped x) (capped w)) h ∙ from-unit ◌+◌ 0 w refl zero-add ∙ e
plus-value (some s) p ls v w r h e q = q ∙ rw (h, e)

pub times-value : (o : Option Product) (a : Atom) (ls : List ℕ) (v w r : ℕ) → Factors o ls v → capped w ≡ atom_value a ls → capped r ≡ capped_by ◌*◌ (capped v) (capped w) →
    capped r ≡ product_value (times_to o a) ls
times-value none a ls v w r h e q = q ∙ ap (λ (x : ℕ). capped_by ◌*◌ (capped x) (capped w)) h ∙ from-unit ◌*◌ 1 w refl one-mul ∙ e
times-value (some s) a ls v w r h e q = q ∙ rw (h, e)

-- one digit more
pub decimal-more : (ds : List ℕ) (n c : ℕ) → decimal n (ds ++ (c ∷ [])) ≡ 10 * decimal n ds + (c - first_digit)
unfolding decimal
decimal-more [] n c = refl
decimal-more (d ∷ ds) n c = decimal-more ds (10 * n + (d - first_digit)) c

-- a number of k digits and one more is below 10 to the k + 1
pub ten-more : (k v d : ℕ) → v < 10 ^ k → d ≤ 9 → 10 * v + d < 10 ^ (k + 1)
ten-more k v d h l = rw (add-one, pow-suc 10 k) (omega arith)

pub ten-most : (k : ℕ) → k ≤ most_digits → 10 ^ k ≤ 10000000000
ten-most k h = pow-le-pow_right {n = 10} (omega arith) h
