-- Folds over the links that are counted: one more is counted.
use Prim.Native.Nat.{ℕ, zero, suc, ◌+◌, ◌≤◌, ◌<◌, max}
use mathlib.Core.Bool.{Bool, true, false}
use mathlib.Core.Path.{◌≡◌, refl, sym, ◌∙◌}
use mathlib.Core.Logic.{◌≢◌}
use native.Mathlib.Omega.{arith}
use Rattle.folds.specs.Folds.{pick, both, either, any, sum, greatest}
use Rattle.folds.proofs.Laws.{none_any, sum_mono, sum-point, greatest-point, greatest-mono}
use Rattle.arrivals.specs.Kept.{counted_by}

module _ (q : ℕ → Bool) (x : ℕ → ℕ) (c c' : ℕ → Bool) (i : ℕ) (was : c i ≡ false) (now : c' i ≡ true) where
  pub count-old : counted_by q x c i ≡ 0
  unfolding counted_by
  count-old = rw was (go (q i))
    where
      go : (b : Bool) → pick (both b false) (x i) 0 ≡ 0
      go true = refl
      go false = refl

  pub count-new : counted_by q x c' i ≡ pick (q i) (x i) 0
  unfolding counted_by
  count-new = rw now (go (q i))
    where
      go : (b : Bool) → pick (both b true) (x i) 0 ≡ pick b (x i) 0
      go true = refl
      go false = refl

  module _ (n : ℕ) (h : i < n) (same : (j : ℕ) → j < n → j ≢ i → c' j ≡ c j) where
    count_same : (j : ℕ) → j < n → j ≢ i → counted_by q x c' j ≡ counted_by q x c j
    unfolding counted_by
    count_same j k d = rw (same j k d)

    pub sum-count : sum n (counted_by q x c') ≡ sum n (counted_by q x c) + pick (q i) (x i) 0
    sum-count = sum-point n (counted_by q x c) (counted_by q x c') i (pick (q i) (x i) 0) h (let a = count-old in let b = count-new in omega arith) count_same

    pub greatest-count : greatest n (counted_by q x c') ≡ max (greatest n (counted_by q x c)) (pick (q i) (x i) 0)
    greatest-count = greatest-point n (counted_by q x c) (counted_by q x c') i (pick (q i) (x i) 0) h (let a = count-old in let b = count-new in omega arith) count_same

-- what is asked for and given need agree for the counted links alone
pub count-agree : (q q' : ℕ → Bool) (x x' : ℕ → ℕ) (c c' : ℕ → Bool) (l : ℕ) → c l ≡ c' l → (c l ≡ true → (q l ≡ q' l) × (x l ≡ x' l)) → counted_by q x c l ≡ counted_by q' x' c' l
unfolding counted_by
count-agree q q' x x' c c' l e h = go (c l) refl
  where
    off : (b : Bool) (y : ℕ) → pick (both b false) y 0 ≡ 0
    off true y = refl
    off false y = refl

    go : (b : Bool) → c l ≡ b → pick (both (q l) (c l)) (x l) 0 ≡ pick (both (q' l) (c' l)) (x' l) 0
    go true p = let a = h p in rw (← e, a.0, a.1)
    go false p = rw (← e, p) (off (q l) (x l) ∙ sym (off (q' l) (x' l)))

-- at most one i below n has p: the number of those with p is 1 or 0
pub sum-single : (n : ℕ) (p : ℕ → Bool) → ((i j : ℕ) → i < n → j < n → p i ≡ true → p j ≡ true → i ≡ j) → sum n (λ i. pick (p i) 1 0) ≡ pick (any n p) 1 0
unfolding sum any
sum-single zero p h = refl
sum-single (suc n) p h = go (p n) refl (sum-single n p (λ i j a b. h i j (omega arith) (omega arith)))
  where
    others : p n ≡ true → (i : ℕ) → i < n → p i ≡ false
    others e i k = at (p i) refl
      where
        at : (b : Bool) → p i ≡ b → p i ≡ false
        at true q = let z : i ≡ n = h i n (omega arith) (omega arith) q e in absurd (omega arith)
        at false q = q

    go : (b : Bool) → p n ≡ b → sum n (λ i. pick (p i) 1 0) ≡ pick (any n p) 1 0 → sum n (λ i. pick (p i) 1 0) + pick (p n) 1 0 ≡ pick (either (any n p) (p n)) 1 0
    go true e ih =
        let a : any n p ≡ false = none_any n p (others e) in
        let b : sum n (λ i. pick (p i) 1 0) ≡ 0 = ih ∙ rw a in
        rw (a, e) (omega arith)
    go false e ih = rw e (last (any n p) ih)
      where
        last : (b : Bool) → sum n (λ i. pick (p i) 1 0) ≡ pick b 1 0 → sum n (λ i. pick (p i) 1 0) + 0 ≡ pick (either b false) 1 0
        last true q = omega arith
        last false q = omega arith

-- what two tests ask for is no more than what one does
part : (a b d : Bool) (y : ℕ) → pick (both (both a b) d) y 0 ≤ pick (both a d) y 0
part true true d y = omega arith
part true false d y = omega arith
part false b d y = omega arith

-- no more of the counted ones are asked for by two tests than by one
pub counts-from-le : (n : ℕ) (q p c : ℕ → Bool) (x : ℕ → ℕ) → sum n (counted_by (λ l. both (q l) (p l)) x c) ≤ sum n (counted_by q x c)
unfolding counted_by
counts-from-le n q p c x = sum_mono n _ _ (λ l h. part (q l) (p l) (c l) (x l))

-- no more is the greatest of those that two tests ask for
pub from_le : (n : ℕ) (q : ℕ → Bool) (x : ℕ → ℕ) (c p : ℕ → Bool) → greatest n (counted_by (λ l. both (q l) (p l)) x c) ≤ greatest n (counted_by q x c)
unfolding counted_by
from_le n q x c p = greatest-mono n _ _ (λ i h. part (q i) (p i) (c i) (x i))
