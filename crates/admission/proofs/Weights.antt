-- Laws of sums over the commands of a programme.
use Prim.Native.Nat.{ℕ, zero, suc, ◌+◌, ◌<◌}
use native.Mathlib.Omega.{arith}
use native.Mathlib.Decide.{dec_lt}
use mathlib.Core.Bool.{Bool, true, false}
use mathlib.Core.Option.{none, some}
use mathlib.Core.Path.{◌≡◌, refl, sym, ap, ◌∙◌}
use mathlib.Core.Logic.{◌⊎◌, inl, inr, ⊎_elim}
use mathlib.Core.List.{List, [], ◌∷◌, ◌++◌}
use lib.ListN.{length, take, drop, get_elem?, get_or-eq_default}
use borrow.Author.Tests.{eq-eqb}
use Rattle.folds.specs.Folds.{sum, gather, bit}
use Rattle.folds.proofs.Tests.{not_some}
use Rattle.bundle.specs.Bundle.{Command, run, send, receive, release, discard, Bundle, programme_count, programme_of}
use Rattle.admission.specs.Counting.{weigh, each, same, is}

-- k has a programme, or an empty one
pub programme-or : (b : Bundle) (k : ℕ) → (k < programme_count b) ⊎ (programme_of b k ≡ [])
unfolding programme_count programme_of
programme-or b k = go (dec_lt k (programme_count b))
  where
    go : Dec (k < programme_count b) → (k < programme_count b) ⊎ (programme_of b k ≡ [])
    go (yes h) = inl h
    go (no n) = inr (get_or-eq_default b.programmes [] (omega arith))

pub command-below : (b : Bundle) (k i : ℕ) (c : Command) → get_elem? (programme_of b k) i ≡ some c → k < programme_count b
command-below b k i c e = ⊎_elim (λ h. h) (λ q. not_some (rw q at e)) (programme-or b k)

-- before and from the place i, where c stands
pub weigh-split : (f : Command → ℕ) (p : List Command) (i : ℕ) → weigh f (take i p) + weigh f (drop i p) ≡ weigh f p
unfolding weigh
weigh-split f p zero = omega arith
weigh-split f [] (suc i) = omega arith
weigh-split f (c ∷ p) (suc i) = omega (arith, weigh-split f p i)

pub weigh-drop : (f : Command → ℕ) (p : List Command) (i : ℕ) (c : Command) → get_elem? p i ≡ some c → weigh f (drop i p) ≡ f c + weigh f (drop (suc i) p)
unfolding weigh
weigh-drop f [] i c e = not_some e
weigh-drop f (d ∷ p) zero c e = cc
weigh-drop f (d ∷ p) (suc i) c e = weigh-drop f p i c e

pub weigh-take : (f : Command → ℕ) (p : List Command) (i : ℕ) (c : Command) → get_elem? p i ≡ some c → weigh f (take (suc i) p) ≡ weigh f (take i p) + f c
weigh-take f p i c e = omega (arith, weigh-drop f p i c e, weigh-split f p i, weigh-split f p (suc i))

-- past the end
pub weigh-take-none : (f : Command → ℕ) (p : List Command) (i : ℕ) → get_elem? p i ≡ none → weigh f (take (suc i) p) ≡ weigh f (take i p)
unfolding weigh
weigh-take-none f [] zero e = refl
weigh-take-none f [] (suc i) e = refl
weigh-take-none f (c ∷ p) zero e = not_some (sym e)
weigh-take-none f (c ∷ p) (suc i) e = omega (arith, weigh-take-none f p i e)

pub weigh-each : (p : List Command) → weigh each p ≡ length p
unfolding weigh
weigh-each [] = refl
weigh-each (c ∷ p) = omega (arith, weigh-each p)

-- no command, no weight
pub weigh-none : (f : Command → ℕ) (p : List Command) → weigh each p ≡ 0 → weigh f p ≡ 0
unfolding weigh
weigh-none f [] h = refl
weigh-none f (c ∷ p) h = absurd (omega arith)

pub weigh-append : (f : Command → ℕ) (p q : List Command) → weigh f (p ++ q) ≡ weigh f p + weigh f q
unfolding weigh
weigh-append f [] q = omega arith
weigh-append f (c ∷ p) q = omega (arith, weigh-append f p q)

pub weigh-gather : (f : Command → ℕ) (n : ℕ) (g : ℕ → List Command) → weigh f (gather n g) ≡ sum n (λ i. weigh f (g i))
unfolding weigh gather sum
weigh-gather f zero g = refl
weigh-gather f (suc n) g = weigh-append f (gather n g) (g n) ∙ omega (arith, weigh-gather f n g)

-- one command
pub same_refl : (c : Command) → same c c ≡ true
same_refl (run t) = eq-eqb t t refl
same_refl (send l) = eq-eqb l l refl
same_refl (receive l) = eq-eqb l l refl
same_refl (release t) = eq-eqb t t refl
same_refl (discard l) = eq-eqb l l refl

pub is-refl : (c : Command) → is c c ≡ 1
unfolding is
is-refl c = ap bit (same_refl c)

pub not_same : (c x : Command) → is c x ≡ 0 → same c x ≡ false
unfolding is
not_same c x h = go (same c x) refl
  where
    go : (b : Bool) → same c x ≡ b → same c x ≡ false
    go true q = absurd (omega (arith, ap bit q))
    go false q = q

-- a command that stands somewhere counts
pub standing : (c : Command) (p : List Command) (i : ℕ) → get_elem? p i ≡ some c → 0 < weigh (is c) p
standing c p i e = omega (arith, weigh-drop (is c) p i c e, weigh-split (is c) p i, is-refl c)
