-- The lowest member of a set is its count of trailing zeros.
use Prim.Native.Nat.{ℕ, zero, suc, ◌+◌, ◌*◌, ◌/◌, ◌%◌, ◌^◌, ◌≤◌, ◌<◌}
use native.Mathlib.Omega.{arith}
use native.Mathlib.Decide.{dec_lt}
use mathlib.Core.Path.{◌≡◌, refl, sym, ap, ◌∙◌}
use mathlib.Core.Bool.{Bool, true, false}
use mathlib.Core.Option.{none, some}
use lib.Dec.{eqb}
use lib.Bits.{block_half, block_odd}
use lib.Count.{count_trailing_zeros, under}
use borrow.Author.Tests.{eq-eqb, ne_eqb}
use Rattle.folds.specs.Folds.{first}
use Rattle.folds.proofs.Laws.{first_found, none_first}
use Rattle.placing.specs.Sets.{member}

pub nobody : (i : ℕ) → member 0 i ≡ false
unfolding member
nobody zero = refl
nobody (suc i) = nobody i

pub trailing-member : (k s : ℕ) → 0 < s → s < 2 ^ k → member s (count_trailing_zeros k s) ≡ true
unfolding member count_trailing_zeros
trailing-member zero s h l = absurd (omega arith)
trailing-member (suc k) s h l = go (s % 2) refl (trailing-member k (s / 2))
  where
    go : (d : ℕ) → s % 2 ≡ d → (0 < s / 2 → s / 2 < 2 ^ k → member (s / 2) (count_trailing_zeros k (s / 2)) ≡ true) → member s (under d (count_trailing_zeros k (s / 2))) ≡ true
    go zero e rest = rest (omega arith) (omega arith)
    go (suc d) e rest = eq-eqb (s % 2) 1 (omega arith)

pub trailing_below : (k s j : ℕ) → j < count_trailing_zeros k s → member s j ≡ false
unfolding member count_trailing_zeros
trailing_below zero s j h = absurd (omega arith)
trailing_below (suc k) s j h = go (s % 2) refl j h (trailing_below k (s / 2))
  where
    go : (d : ℕ) → s % 2 ≡ d → (j : ℕ) → j < under d (count_trailing_zeros k (s / 2)) → ((i : ℕ) → i < count_trailing_zeros k (s / 2) → member (s / 2) i ≡ false) → member s j ≡ false
    go zero e zero l rest = ne_eqb (s % 2) 1 (λ q. omega arith)
    go zero e (suc j) l rest = rest j (omega arith)
    go (suc d) e j l rest = absurd (omega arith)

-- a set of numbers below k has none from k on
pub member-past : (k s i : ℕ) → s < 2 ^ k → k ≤ i → member s i ≡ false
unfolding member
member-past zero s i h l = let e : s ≡ 0 = omega arith in rw e (nobody i)
member-past (suc k) s zero h l = absurd (omega arith)
member-past (suc k) s (suc i) h l = member-past k (s / 2) i (omega arith) (omega arith)

pub trailing_lt : (k s n : ℕ) → 0 < s → s < 2 ^ k → s < 2 ^ n → count_trailing_zeros k s < n
trailing_lt k s n h l m = go (dec_lt (count_trailing_zeros k s) n)
  where
    go : Dec (count_trailing_zeros k s < n) → count_trailing_zeros k s < n
    go (yes q) = q
    go (no d) =
        let f : ◌≡◌ {A = Bool} true false = sym (trailing-member k s h l) ∙ member-past n s (count_trailing_zeros k s) m (omega arith) in
        let z : ◌≡◌ {A = ℕ} 0 1 = cc in
        absurd (omega arith)

-- trailing zeros of a nonzero set below 2 ^ k pick its lowest member
pub lowest-is : (k s : ℕ) → 0 < s → s < 2 ^ k → first k (member s) ≡ some (count_trailing_zeros k s)
lowest-is k s h l = first_found k (member s) (count_trailing_zeros k s) (trailing_below k s) (trailing-member k s h l) (trailing_lt k s k h l l)

pub lowest-none : (k : ℕ) → first k (member 0) ≡ none
lowest-none k = none_first k (member 0) (λ i _. nobody i)

-- the low digits and the next
pub low-member : (n a s i : ℕ) → s < 2 ^ n → i < n → member (a * 2 ^ n + s) i ≡ member s i
unfolding member
low-member zero a s i h l = absurd (omega arith)
low-member (suc n) a s zero h l = ap (λ (x : ℕ). eqb x 1) (block_odd a n s)
low-member (suc n) a s (suc i) h l = ap (λ (x : ℕ). member x i) (block_half a n s) ∙ low-member n a (s / 2) i (omega arith) (omega arith)

pub top-member : (n a s : ℕ) → s < 2 ^ n → a < 2 → member (a * 2 ^ n + s) n ≡ eqb a 1
unfolding member
top-member zero a s h l = let e : (a * 1 + s) % 2 ≡ a = omega arith in ap (λ (x : ℕ). eqb x 1) e
top-member (suc n) a s h l = ap (λ (x : ℕ). member x n) (block_half a n s) ∙ top-member n a (s / 2) (omega arith) l
