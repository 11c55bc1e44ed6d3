-- Sums with 2 more at each index, and sums to which one term alone gives something.
use Prim.Native.Nat.{ℕ, zero, suc, ◌+◌, ◌*◌}
use mathlib.Core.Path.{◌≡◌, refl, ap}
use mathlib.Core.Bool.{Bool, true, false}
use native.Mathlib.Omega.{arith}
use Rattle.folds.specs.Folds.{pick, bit, sum}
use Rattle.folds.proofs.Laws.{sum_zeros, term-le-sum}

-- 2 more at each index
pub sum-twos : (n : ℕ) (f : ℕ → ℕ) → sum n (λ i. 2 + f i) ≡ 2 * n + sum n f
unfolding sum
sum-twos zero f = refl
sum-twos (suc n) f = omega (arith, sum-twos n f)

none-picked : (b : Bool) (x : ℕ) → bit b ≡ 0 → pick b x 0 ≡ 0
none-picked true x h = absurd (omega arith)
none-picked false x h = refl

-- the test holds at one index
pub sum-once : (n : ℕ) (q : ℕ → Bool) (x : ℕ) → sum n (λ i. bit (q i)) ≡ 1 → sum n (λ i. pick (q i) x 0) ≡ x
unfolding sum
sum-once zero q x h = absurd (omega arith)
sum-once (suc n) q x h = go (q n) refl (sum-once n q x)
  where
    go : (b : Bool) → q n ≡ b → (sum n (λ i. bit (q i)) ≡ 1 → sum n (λ i. pick (q i) x 0) ≡ x) → sum n (λ i. pick (q i) x 0) + pick (q n) x 0 ≡ x
    go true e ih =
        let z : sum n (λ i. bit (q i)) ≡ 0 = omega (arith, h, ap bit e) in
        omega (
          arith,
          sum_zeros n (λ i. pick (q i) x 0) (λ j l. none-picked (q j) x (omega (arith, z, term-le-sum n (λ i. bit (q i)) j l))),
          ap (λ (b : Bool). pick b x 0) e,
        )
    go false e ih = omega (arith, ih (omega (arith, h, ap bit e)), ap (λ (b : Bool). pick b x 0) e)
