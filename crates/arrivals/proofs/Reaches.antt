-- The latest reach and where it comes from, when one more comes.
use Prim.Native.Nat.{ℕ, ◌<◌, max}
use mathlib.Core.Path.{◌≡◌, refl, ap, sym, ◌∙◌}
use mathlib.Core.Bool.{Bool, true, false}
use mathlib.Core.Logic.{◌≢◌}
use native.Mathlib.Omega.{arith}
use native.Mathlib.Decide.{dec_lt}
use borrow.Author.Tests.{eq-eqb, lt-ltb, le-ltb}
use lib.Dec.{ltb, eqb}
use Rattle.folds.specs.Folds.{pick, both, greatest}
use Rattle.folds.proofs.Tests.{pick-le}
use Rattle.arrivals.specs.Kept.{counted_by}
use Rattle.arrivals.specs.Reach.{further}
use Rattle.arrivals.specs.declared.Reach.{Reach}
use Rattle.arrivals.proofs.Counts.{greatest-count, from_le}

-- b says the latest reach of the counted links c, which is one of p's processor
pub record Reaches (m : ℕ) (q : ℕ → Bool) (x : ℕ → ℕ) (p : ℕ → ℕ) (c : ℕ → Bool) (b : Reach) : Type 0 where
  pub whole : b.most ≡ greatest m (counted_by q x c)
  pub main : b.most ≡ greatest m (counted_by (λ l. both (q l) (eqb (p l) b.at)) x c)

module _ (m : ℕ) (q : ℕ → Bool) (x : ℕ → ℕ) (p : ℕ → ℕ) (c c' : ℕ → Bool) (i k y : ℕ) (h : i < m) (was : c i ≡ false) (now : c' i ≡ true) (same : (j : ℕ) → j < m → j ≢ i → c' j ≡ c j) (q-is : q i ≡ true) (x_is : x i ≡ y) (p-is : p i ≡ k) where
  whole' : greatest m (counted_by q x c') ≡ max (greatest m (counted_by q x c)) y
  whole' = greatest-count q x c c' i was now m h same ∙ rw (q-is, x_is)

  from' : (a : ℕ) → greatest m (counted_by (λ l. both (q l) (eqb (p l) a)) x c') ≡ max (greatest m (counted_by (λ l. both (q l) (eqb (p l) a)) x c)) (pick (eqb k a) y 0)
  from' a = greatest-count (λ l. both (q l) (eqb (p l) a)) x c c' i was now m h same ∙ rw (q-is, x_is, p-is)

  main' : (b : Reach) → Reaches m q x p c b → Dec (b.most < y) → max b.most y ≡ greatest m (counted_by (λ l. both (q l) (eqb (p l) (pick (ltb b.most y) k b.at))) x c')
  main' b g (yes d) = rw (lt-ltb b.most y d) (sym (from' k ∙ rw (eq-eqb k k refl) (omega (arith, g.whole, from_le m q x c (λ l. eqb (p l) k)))))
  main' b g (no d) = rw (le-ltb b.most y (omega arith)) (sym (from' b.at ∙ omega (arith, g.main, pick-le (eqb k b.at) y 0 y (omega arith) (omega arith))))

  pub reaches_more : (b : Reach) → Reaches m q x p c b → Reaches m q x p c' (further b k y)
  unfolding further
  reaches_more b g = record { whole = ap (λ (u : ℕ). max u y) g.whole ∙ sym whole'; main = main' b g (dec_lt b.most y) }

pub record Small (b : Reach) : Type 0 where
  pub at : b.at < 4294967296
  pub most : b.most < 4294967296

pub further-small : (b : Reach) (k y : ℕ) → Small b → k < 4294967296 → y < 4294967296 → Small (further b k y)
unfolding further
further-small b k y h hk hy = record { at = go (ltb b.most y); most = omega (arith, h.most) }
  where
    go : (c : Bool) → pick c k b.at < 4294967296
    go true = hk
    go false = h.at
