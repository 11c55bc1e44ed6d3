-- Commands met one by one: where one stands in its programme.
use Prim.Native.Nat.{ℕ, zero, suc, ◌≤◌}
use native.Mathlib.Omega.{arith}
use mathlib.Core.Option.{none, some, some-injective}
use mathlib.Core.Path.{◌≡◌, refl, ap, subst}
use mathlib.Core.List.{List, [], ◌∷◌, ◌++◌}
use lib.ListN.{length, get_or, take, drop, get_elem?}
use Rattle.folds.proofs.Tests.{not_some}
use Rattle.bundle.specs.Bundle.{Command}
use Rattle.bundle.specs.Fits.{Each}
use Rattle.bundle.specs.Lies.{Laid}

-- what is left from place i on
pub drop-next : (p : List Command) (i : ℕ) (c : Command) (r : List Command) → drop i p ≡ c ∷ r → (get_elem? p i ≡ some c) × (drop (suc i) p ≡ r)
drop-next [] zero c r e = (cc, cc)
drop-next [] (suc i) c r e = (cc, cc)
drop-next (x ∷ p) zero c r e = (cc, cc)
drop-next (x ∷ p) (suc i) c r e = drop-next p i c r e

-- the command at a place, with those before it and those behind it
pub drop_at : (p : List Command) (i : ℕ) (c : Command) → get_elem? p i ≡ some c → drop i p ≡ c ∷ drop (suc i) p
drop_at [] i c e = not_some e
drop_at (x ∷ p) zero c e = ap (λ (y : Command). y ∷ p) (some-injective x c e)
drop_at (x ∷ p) (suc i) c e = drop_at p i c e

pub take_at : (p : List Command) (i : ℕ) (c : Command) → get_elem? p i ≡ some c → take (suc i) p ≡ take i p ++ c ∷ []
take_at [] i c e = not_some e
take_at (x ∷ p) zero c e = ap (λ (y : Command). y ∷ []) (some-injective x c e)
take_at (x ∷ p) (suc i) c e = ap (λ (y : List Command). x ∷ y) (take_at p i c e)

pub drop-short : (p : List Command) (i : ℕ) → drop i p ≡ [] → length p ≤ i
drop-short [] i e = omega arith
drop-short (x ∷ p) zero e = let z : ◌≡◌ {A = ℕ} 0 1 = cc in absurd (omega arith)
drop-short (x ∷ p) (suc i) e = omega (arith, drop-short p i e)

-- no command stands behind the last
pub command-past : (p : List Command) (i : ℕ) → length p ≤ i → get_elem? p i ≡ none
command-past [] i l = refl
command-past (c ∷ p) zero l = absurd (omega arith)
command-past (c ∷ p) (suc i) l = command-past p i (omega arith)

-- a laid bundle by other words that agree
pub laid_by : {t l : ℕ} {bundle w v : List ℕ} {ps : List (List Command)} → ((i : ℕ) → i ≤ length ps → get_or v i 0 ≡ get_or w i 0) → Laid t l bundle w ps → Laid t l bundle v ps
laid_by {ps = ps} same h =
    record { lies = λ k l. rw (same k (omega arith), same (suc k) (omega arith)) (h.lies k l); claimed = rw (same (length ps) (omega arith)) h.claimed }

-- what holds of each element
pub each-elem : {A : Type 0} (P : A → Type 0) (xs : List A) (i : ℕ) (x : A) → Each P xs → get_elem? xs i ≡ some x → P x
each-elem P [] i x h e = not_some e
each-elem P (y ∷ xs) zero x h e = subst P (some-injective y x e) h.0
each-elem P (y ∷ xs) (suc i) x h e = each-elem P xs i x h.1 e
