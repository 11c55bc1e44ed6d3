-- The store in use along a programme, and its highest.
use Prim.Native.Nat.{ℕ, zero, suc, ◌+◌, ◌-◌, ◌≤◌, ◌<◌}
use native.Mathlib.Omega.{arith}
use native.Mathlib.Decide.{dec_lt}
use mathlib.Core.Option.{Option, none, some}
use mathlib.Core.Path.{◌≡◌, refl, ap, ◌∙◌}
use mathlib.Core.List.{List, []}
use lib.ListN.{length, take, get_elem?}
use Rattle.folds.proofs.Laws.{term-le-greatest, greatest-le}
use Rattle.sheet.specs.Sheet.{Sheet}
use Rattle.bundle.specs.Bundle.{Command}
use Rattle.admission.specs.Counting.{weigh, need, stored, stored_by, in_use, highest}
use Rattle.admission.proofs.Weights.{weigh-split, weigh-take, weigh-take-none}
use Rattle.admission.proofs.Walking.{command-past}

module _ (s : Sheet) where
  pub use-next : (p : List Command) (i : ℕ) (c : Command) → get_elem? p i ≡ some c → in_use s p (suc i) ≡ stored s c (in_use s p i)
  unfolding in_use
  use-next p i c e = rw e

  pub use-zero : (p : List Command) → in_use s p 0 ≡ 0
  unfolding in_use
  use-zero p = refl

  pub use-none : (i : ℕ) → in_use s [] i ≡ 0
  unfolding in_use
  use-none zero = refl
  use-none (suc i) = use-none i

  use-past : (p : List Command) (j : ℕ) → in_use s p (length p + j) ≡ in_use s p (length p)
  unfolding in_use
  use-past p zero = let e : length p + 0 ≡ length p = omega arith in ap (in_use s p) e
  use-past p (suc j) =
      let e : length p + suc j ≡ suc (length p + j) = omega arith in
      ap (in_use s p) e ∙ ap (λ (o : Option Command). stored_by s o (in_use s p (length p + j))) (command-past p (length p + j) (omega arith)) ∙ use-past p j

  pub le-highest : (p : List Command) (i : ℕ) → in_use s p i ≤ highest s p
  unfolding highest
  le-highest p i = go (dec_lt i (suc (length p)))
    where
      go : Dec (i < suc (length p)) → in_use s p i ≤ highest s p
      go (yes h) = term-le-greatest (suc (length p)) (in_use s p) i h
      go (no h) =
          let e : length p + (i - length p) ≡ i = omega arith in
          omega (arith, use-past p (i - length p), ap (in_use s p) e, term-le-greatest (suc (length p)) (in_use s p) (length p) (omega arith))

  -- releases or not, no more is in use than all commands need
  pub use-le : (p : List Command) (i : ℕ) → in_use s p i ≤ weigh (need s) p
  unfolding in_use
  use-le p i = omega (arith, up_to i, weigh-split (need s) p i)
    where
      up_to : (i : ℕ) → in_use s p i ≤ weigh (need s) (take i p)
      up_to zero = omega (arith, use-zero p)
      up_to (suc i) = go (get_elem? p i) refl (up_to i)
        where
          go : (o : Option Command) → get_elem? p i ≡ o → in_use s p i ≤ weigh (need s) (take i p) → stored_by s (get_elem? p i) (in_use s p i) ≤ weigh (need s) (take (suc i) p)
          go none e h = rw e (omega (arith, weigh-take-none (need s) p i e))
          go (some c) e h = rw e (omega (arith, weigh-take (need s) p i c e))

  pub highest-le : (p : List Command) (v : ℕ) → ((i : ℕ) → i ≤ length p → in_use s p i ≤ v) → highest s p ≤ v
  unfolding highest
  highest-le p v h = greatest-le (suc (length p)) (in_use s p) v (λ i l. h i (omega arith))
