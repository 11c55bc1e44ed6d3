-- The processor with the greatest key is the one that a placing step gives.
use Prim.Native.Nat.{ℕ, ◌≤◌, ◌<◌}
use mathlib.Core.Bool.{Bool}
use mathlib.Core.Option.{some}
use mathlib.Core.Path.{◌≡◌, refl, ap, ◌∙◌}
use native.Mathlib.Omega.{arith}
use lib.Dec.{ltb}
use Rattle.folds.specs.Folds.{pick, greatest, leading, least}
use Rattle.folds.proofs.Tests.{ltb-same}
use Rattle.readiness.proofs.Leading.{index-more, leader}
use Rattle.placing.specs.Ranks.{low_key, high_key, processor_of}

module _ (n : ℕ) (few : n ≤ 16) (p : ℕ → Bool) (f : ℕ → ℕ) where
  pub least-by-key : ((k : ℕ) → k < n → f k < 4294967296) → {g : ℕ} → g ≡ greatest n (λ k. pick (p k) (low_key (f k) k) 0) → processor_of g ≡ least n p f
  unfolding low_key least
  least-by-key small =
      leader n p (λ a b. ltb (f a) (f b)) (λ k. low_key (f k) k)
      (λ a b h l. let x = small a l in let y = small b (omega arith) in ltb-same (f a) (f b) (low_key (f b) b) (low_key (f a) a) (λ d. omega arith) (λ d. omega arith))
      (λ k h. let x = small k h in omega arith)
      processor_of
      refl
      (λ k h. let x = small k h in index-more 16 (low_key (f k) k) (omega arith) ∙ ap some (omega arith))

  pub latest-by-key : {g : ℕ} → g ≡ greatest n (λ k. pick (p k) (high_key (f k) k) 0) → processor_of g ≡ leading n p (λ a b. ltb (f b) (f a))
  unfolding high_key
  latest-by-key =
      leader n p (λ a b. ltb (f b) (f a)) (λ k. high_key (f k) k)
      (λ a b h l. ltb-same (f b) (f a) (high_key (f b) b) (high_key (f a) a) (λ d. omega arith) (λ d. omega arith))
      (λ k h. omega arith)
      processor_of
      refl
      (λ k h. index-more 16 (high_key (f k) k) (omega arith) ∙ ap some (omega arith))
