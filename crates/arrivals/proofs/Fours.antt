-- Four counts in one word.
use Prim.Native.Nat.{ℕ, zero, suc, ◌+◌, ◌*◌, ◌/◌, ◌%◌, ◌^◌, ◌<◌}
use mathlib.Core.Path.{◌≡◌, refl}
use native.Mathlib.Omega.{arith}
use lib.Dec.{eqb}
use Rattle.folds.specs.Folds.{pick}
use Rattle.arrivals.specs.Kept.{four_of}

pub four-cong : (f g : ℕ → ℕ) → ((i : ℕ) → i < 4 → f i ≡ g i) → four_of f ≡ four_of g
unfolding four_of
four-cong f g e = omega (arith, e 0 (omega arith), e 1 (omega arith), e 2 (omega arith), e 3 (omega arith))

pub four-zero : (f : ℕ → ℕ) → ((i : ℕ) → i < 4 → f i ≡ 0) → four_of f ≡ 0
unfolding four_of
four-zero f e = omega (arith, e 0 (omega arith), e 1 (omega arith), e 2 (omega arith), e 3 (omega arith))

pub four-small : (f : ℕ → ℕ) → ((i : ℕ) → i < 4 → f i < 256) → four_of f < 4294967296
unfolding four_of
four-small f e = omega (arith, e 0 (omega arith), e 1 (omega arith), e 2 (omega arith), e 3 (omega arith))

-- one of the four is one more
pub four-more : (f g : ℕ → ℕ) (r : ℕ) → r < 4 → ((i : ℕ) → i < 4 → g i ≡ f i + pick (eqb r i) 1 0) → four_of g ≡ four_of f + 2 ^ (8 * r)
unfolding four_of
four-more f g zero h e = omega (arith, e 0 (omega arith), e 1 (omega arith), e 2 (omega arith), e 3 (omega arith))
four-more f g (suc zero) h e = omega (arith, e 0 (omega arith), e 1 (omega arith), e 2 (omega arith), e 3 (omega arith))
four-more f g (suc (suc zero)) h e = omega (arith, e 0 (omega arith), e 1 (omega arith), e 2 (omega arith), e 3 (omega arith))
four-more f g (suc (suc (suc zero))) h e = omega (arith, e 0 (omega arith), e 1 (omega arith), e 2 (omega arith), e 3 (omega arith))
four-more f g (suc (suc (suc (suc r)))) h e = absurd (omega arith)

-- each is a byte
pub four-byte : (f : ℕ → ℕ) (r : ℕ) → r < 4 → ((i : ℕ) → i < 4 → f i < 256) → four_of f / 2 ^ (8 * r) % 256 ≡ f r
unfolding four_of
four-byte f zero h e = omega (arith, e 0 (omega arith))
four-byte f (suc zero) h e = omega (arith, e 0 (omega arith), e 1 (omega arith))
four-byte f (suc (suc zero)) h e = omega (arith, e 0 (omega arith), e 1 (omega arith), e 2 (omega arith))
four-byte f (suc (suc (suc zero))) h e = omega (arith, e 0 (omega arith), e 1 (omega arith), e 2 (omega arith), e 3 (omega arith))
four-byte f (suc (suc (suc (suc r)))) h e = absurd (omega arith)

-- the unit of each fits a word of 64 bits
pub four-unit : (r : ℕ) → r < 4 → 1 * 2 ^ (8 * r) % 18446744073709551616 ≡ 2 ^ (8 * r)
four-unit zero h = refl
four-unit (suc zero) h = refl
four-unit (suc (suc zero)) h = refl
four-unit (suc (suc (suc zero))) h = refl
four-unit (suc (suc (suc (suc r)))) h = absurd (omega arith)

pub small-unit : (k : ℕ) → 2 ^ (8 * (k % 4)) < 4294967296
small-unit k = go (k % 4) (omega arith)
  where
    go : (r : ℕ) → r < 4 → 2 ^ (8 * r) < 4294967296
    go zero h = omega arith
    go (suc zero) h = omega arith
    go (suc (suc zero)) h = omega arith
    go (suc (suc (suc zero))) h = omega arith
    go (suc (suc (suc (suc r)))) h = absurd (omega arith)
