-- The bits of a number: setting one that is 0 changes no other.
use Prim.Native.Nat.{ℕ, zero, suc, ◌+◌, ◌/◌, ◌%◌, ◌^◌, ◌≤◌, ◌<◌}
use mathlib.Core.Path.{◌≡◌, refl, ap, sym, ◌∙◌}
use mathlib.Core.Logic.{◌≢◌}
use native.Mathlib.Nat.{pow-succ', div-div-eq-div-mul}
use native.Mathlib.Omega.{arith}
use Rattle.sheet.specs.Tables.{bit_at}

bit-zero : (x : ℕ) → bit_at x 0 ≡ x % 2
unfolding bit_at
bit-zero x = omega arith

bit-suc : (x j : ℕ) → bit_at x (suc j) ≡ bit_at (x / 2) j
unfolding bit_at
bit-suc x j = rw (pow-succ' 2 j, ← div-div-eq-div-mul x 2 (2 ^ j))

-- the bit itself is 1 then
pub bit-set : (j x : ℕ) → bit_at x j ≡ 0 → bit_at (x + 2 ^ j) j ≡ 1
bit-set zero x h = bit-zero (x + 1) ∙ omega (arith, bit-zero x)
bit-set (suc j) x h =
    let half : (x + 2 ^ suc j) / 2 ≡ x / 2 + 2 ^ j = omega (arith, pow-succ' 2 j) in
    bit-suc (x + 2 ^ suc j) j ∙ ap (λ (y : ℕ). bit_at y j) half ∙ bit-set j (x / 2) (sym (bit-suc x j) ∙ h)

pub bit-other : (j i x : ℕ) → i ≢ j → bit_at x j ≡ 0 → bit_at (x + 2 ^ j) i ≡ bit_at x i
bit-other zero zero x d h = absurd (d refl)
bit-other zero (suc i) x d h =
    let half : (x + 1) / 2 ≡ x / 2 = omega (arith, bit-zero x) in
    bit-suc (x + 1) i ∙ ap (λ (y : ℕ). bit_at y i) half ∙ sym (bit-suc x i)
bit-other (suc j) zero x d h = bit-zero (x + 2 ^ suc j) ∙ omega (arith, pow-succ' 2 j) ∙ sym (bit-zero x)
bit-other (suc j) (suc i) x d h =
    let half : (x + 2 ^ suc j) / 2 ≡ x / 2 + 2 ^ j = omega (arith, pow-succ' 2 j) in
    bit-suc (x + 2 ^ suc j) i ∙ ap (λ (y : ℕ). bit_at y i) half ∙ bit-other j i (x / 2) (λ e. d (ap suc e)) (sym (bit-suc x j) ∙ h) ∙ sym (bit-suc x i)

-- there is room for it
pub bit-room : (j w x : ℕ) → j < w → x < 2 ^ w → bit_at x j ≡ 0 → x + 2 ^ j < 2 ^ w
bit-room j zero x l h e = absurd (omega arith)
bit-room zero (suc w) x l h e = omega (arith, bit-zero x, pow-succ' 2 w)
bit-room (suc j) (suc w) x l h e =
    let ih = bit-room j w (x / 2) (omega arith) (omega (arith, pow-succ' 2 w)) (sym (bit-suc x j) ∙ e) in
    omega (arith, pow-succ' 2 w, pow-succ' 2 j)

-- a number without bits
pub bit-none : (j : ℕ) → bit_at 0 j ≡ 0
bit-none zero = bit-zero 0
bit-none (suc j) = bit-suc 0 j ∙ bit-none j

-- a bit is 0 or 1
pub bit_le : (x j : ℕ) → bit_at x j ≤ 1
unfolding bit_at
bit_le x j = omega arith
