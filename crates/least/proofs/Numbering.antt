-- The programmes that run a task, numbered in order without a gap.
use Prim.Native.Nat.{ℕ, zero, suc, ◌<◌}
use native.Mathlib.Omega.{arith}
use native.Mathlib.Decide.{dec_lt}
use mathlib.Core.Bool.{Bool, true, false}
use mathlib.Core.Path.{◌≡◌, refl, ap, ◌∙◌}
use lib.Dec.{eqb}
use borrow.Author.Tests.{eqb-true, eq-eqb}
use Rattle.folds.specs.Folds.{bit, any, sum}
use Rattle.folds.proofs.Tests.{bit_le}
use Rattle.folds.proofs.Laws.{any_found, any_some, sum-rises, sum-le}
use Rattle.sheet.specs.Sheet.{Sheet, task_count}
use Rattle.bundle.specs.Bundle.{run, Bundle, programme_count}
use Rattle.bundle.specs.Fits.{Formed}
use Rattle.admission.specs.Messages.{home, Published}
use Rattle.least.proofs.Standing.{home_below}
use Rattle.least.proofs.Following.{Numbering}

-- the j-th place that passes a test
nth : (n : ℕ) (p : ℕ → Bool) (j : ℕ) → j < sum n (λ i. bit (p i)) → (i : ℕ) × (i < n) × (p i ≡ true) × (sum i (λ i. bit (p i)) ≡ j)
unfolding sum
nth zero p j h = absurd (omega arith)
nth (suc n) p j h = go (dec_lt j (sum n (λ i. bit (p i)))) (p n) refl (nth n p j)
  where
    go : Dec (j < sum n (λ i. bit (p i))) → (x : Bool) → p n ≡ x → (j < sum n (λ i. bit (p i)) → (i : ℕ) × (i < n) × (p i ≡ true) × (sum i (λ i. bit (p i)) ≡ j))
        → (i : ℕ) × (i < suc n) × (p i ≡ true) × (sum i (λ i. bit (p i)) ≡ j)
    go (yes l) x e r = let m = r l in (m.0, omega (arith, m.1), m.2, m.3)
    go (no l) true e r = (n, omega arith, e, omega (arith, ap bit e))
    go (no l) false e r = absurd (omega (arith, ap bit e))

module _ (s : Sheet) (b : Bundle) where
  unfoldable pub used : ℕ → Bool
  used j = any (task_count s) (λ u. eqb (home b (run u)) j)

  unfoldable pub number : ℕ → ℕ
  number t = sum (home b (run t)) (λ j. bit (used j))

  used-home : (t : ℕ) → t < task_count s → used (home b (run t)) ≡ true
  unfolding used
  used-home t h = any_found (task_count s) (λ u. eqb (home b (run u)) (home b (run t))) t h (eq-eqb (home b (run t)) (home b (run t)) refl)

  before-less : (t u : ℕ) → t < task_count s → home b (run t) < home b (run u) → number t < number u
  unfolding number sum
  before-less t u h l = omega (arith, sum-rises (suc (home b (run t))) (home b (run u)) (λ j. bit (used j)) l, ap bit (used-home t h))

  pub numbered : Published s b → Formed s b → Numbering s b number
  unfolding number programme_count
  numbered published formed =
      record {
        board = λ t h. omega (arith, sum-le (home b (run t)) 1 (λ j. bit (used j)) (λ j l. bit_le (used j)), home_below s b published t h, formed.few);
        alike = λ t u h k q. ap (λ x. sum x (λ j. bit (used j))) q;
        only = λ t u h k q. go t u h k q (dec_lt (home b (run t)) (home b (run u))) (dec_lt (home b (run u)) (home b (run t)));
      }
    where
      go : (t u : ℕ) → t < task_count s → u < task_count s → number t ≡ number u → Dec (home b (run t) < home b (run u)) → Dec (home b (run u) < home b (run t)) → home b (run t) ≡ home b (run u)
      go t u h k q (yes l) d = absurd (omega (arith, before-less t u h l))
      go t u h k q (no l) (yes m) = absurd (omega (arith, before-less u t k m))
      go t u h k q (no l) (no m) = omega arith

  -- every lower number is that of a task
  pub no_gap : (t j : ℕ) → j < number t → (u : ℕ) × (u < task_count s) × (number u ≡ j)
  unfolding number used
  no_gap t j h =
      let m = nth (home b (run t)) used j h in
      let n = any_some (task_count s) (λ u. eqb (home b (run u)) m.0) m.2 in
      (n.0, n.1, ap (λ x. sum x (λ j. bit (used j))) (eqb-true (home b (run n.0)) m.0 n.2) ∙ m.3)
