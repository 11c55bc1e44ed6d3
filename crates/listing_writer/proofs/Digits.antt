-- The digits of a number: one more than those of its tenth, four more than those of its 10,000th, and at most 20.
use Prim.Native.Nat.{ℕ, zero, suc, ◌+◌, ◌/◌, ◌%◌, ◌^◌, ◌≤◌, ◌<◌}
use mathlib.Core.Path.{◌≡◌, sym, ap, ◌∙◌}
use mathlib.Core.Bool.{Bool}
use mathlib.Core.List.{List, [], ◌∷◌, ◌++◌, append_assoc, append-nil}
use native.Mathlib.Nat.{pow-suc, div-lt_iff_lt-mul}
use native.Mathlib.Omega.{arith}
use native.Mathlib.Decide.{dec_lt}
use borrow.Author.Tests.{lt-ltb, le-ltb}
use lib.ListN.{length, length-append}
use lib.Dec.{lit<}
use Rattle.folds.specs.Folds.{pick}
use Rattle.listing.specs.Listing.{digit, decimal_within, decimal}
use Rattle.listing_writer.specs.Lines.{four_digits}

-- a number of one digit, and of more
within-small : (f n : ℕ) → n < 10 → decimal_within (suc f) n ≡ digit n ∷ []
unfolding decimal_within
within-small f n h =
    let e : n % 10 ≡ n = omega arith in
    ap (λ (b : Bool). pick b [] (decimal_within f (n / 10)) ++ digit (n % 10) ∷ []) (lt-ltb n 10 h) ∙ ap (λ (k : ℕ). digit k ∷ []) e

within-large : (f n : ℕ) → 10 ≤ n → decimal_within (suc f) n ≡ decimal_within f (n / 10) ++ digit (n % 10) ∷ []
unfolding decimal_within
within-large f n h = ap (λ (b : Bool). pick b [] (decimal_within f (n / 10)) ++ digit (n % 10) ∷ []) (le-ltb n 10 h)

-- where f digits are enough, more change nothing
within_more : (f n : ℕ) → n < 10 ^ suc f → decimal_within (suc f) n ≡ decimal_within (suc (suc f)) n
within_more zero n h = within-small 0 n h ∙ sym (within-small 1 n h)
within_more (suc f) n h = go (dec_lt n 10) (within_more f (n / 10) ((div-lt_iff_lt-mul (lit< tt)).1 (rw pow-suc at h)))
  where
    go : Dec (n < 10) → decimal_within (suc f) (n / 10) ≡ decimal_within (suc (suc f)) (n / 10) → decimal_within (suc (suc f)) n ≡ decimal_within (suc (suc (suc f))) n
    go (yes l) e = within-small (suc f) n l ∙ sym (within-small (suc (suc f)) n l)
    go (no l) e =
        within-large (suc f) n (omega arith) ∙ ap (λ (v : List ℕ). v ++ digit (n % 10) ∷ []) e ∙ sym (within-large (suc (suc f)) n (omega arith))

-- one digit more
within-grows : (f n m : ℕ) → length (decimal_within f (n / 10)) ≤ m → length (decimal_within (suc f) n) ≤ suc m
within-grows f n m h = go (dec_lt n 10)
  where
    go : Dec (n < 10) → length (decimal_within (suc f) n) ≤ suc m
    go (yes l) = omega (arith, ap length (within-small f n l))
    go (no l) = omega (arith, ap length (within-large f n (omega arith)), length-append (decimal_within f (n / 10)) (digit (n % 10) ∷ []))

within-length : (f n : ℕ) → length (decimal_within f n) ≤ f
unfolding decimal_within
within-length zero n = omega arith
within-length (suc f) n = within-grows f n f (within-length f (n / 10))

pub decimal-small : (n : ℕ) → n < 10 → decimal n ≡ digit n ∷ []
unfolding decimal
decimal-small n h = within-small 19 n h

decimal-large : (n : ℕ) → 10 ≤ n → n < 2 ^ 64 → decimal n ≡ decimal (n / 10) ++ digit (n % 10) ∷ []
unfolding decimal
decimal-large n h l =
    within-large 19 n h ∙ ap (λ (v : List ℕ). v ++ digit (n % 10) ∷ []) (within_more 18 (n / 10) (omega arith))

pub decimal-length : (n : ℕ) → length (decimal n) ≤ 20
unfolding decimal
decimal-length n = within-length 20 n

pub length-large : (n : ℕ) → 10 ≤ n → n < 2 ^ 64 → length (decimal n) ≡ length (decimal (n / 10)) + 1
length-large n h l = ap length (decimal-large n h l) ∙ length-append (decimal (n / 10)) (digit (n % 10) ∷ [])

-- the digits one by one, and by fours
pub decimal-two : (n : ℕ) → 10 ≤ n → n < 100 → decimal n ≡ digit (n / 10) ∷ digit (n % 10) ∷ []
decimal-two n h l = decimal-large n h (omega arith) ∙ ap (λ (v : List ℕ). v ++ digit (n % 10) ∷ []) (decimal-small (n / 10) (omega arith))

pub decimal-three : (n : ℕ) → 100 ≤ n → n < 1000 → decimal n ≡ digit (n / 100) ∷ digit (n / 10 % 10) ∷ digit (n % 10) ∷ []
decimal-three n h l =
    let e : n / 10 / 10 ≡ n / 100 = omega arith in
    let f = decimal-large n (omega arith) (omega arith) in
    let g = decimal-two (n / 10) (omega arith) (omega arith) in
    rw (f, g, e)

pub decimal-four : (n : ℕ) → 1000 ≤ n → n < 10000 → decimal n ≡ four_digits n
unfolding four_digits
decimal-four n h l =
    let d : n / 10 / 10 ≡ n / 100 = omega arith in
    let e : n / 10 / 100 ≡ n / 1000 = omega arith in
    let f = decimal-large n (omega arith) (omega arith) in
    let g = decimal-three (n / 10) (omega arith) (omega arith) in
    rw (f, g, d, e)

-- the last digit before v
last-digit : (n : ℕ) (v : List ℕ) → 10 ≤ n → n < 2 ^ 64 → decimal n ++ v ≡ decimal (n / 10) ++ digit (n % 10) ∷ v
last-digit n v h l = ap (λ (u : List ℕ). u ++ v) (decimal-large n h l) ∙ append_assoc (decimal (n / 10)) (digit (n % 10) ∷ []) v

same_digits : {x y a b c d a' b' c' d' : ℕ} → x ≡ y → a ≡ a' → b ≡ b' → c ≡ c' → d ≡ d'
    → decimal x ++ digit a ∷ digit b ∷ digit c ∷ digit d ∷ [] ≡ decimal y ++ digit a' ∷ digit b' ∷ digit c' ∷ digit d' ∷ []
same_digits o p q r s = cc

pub decimal-more : (n : ℕ) → 10000 ≤ n → n < 2 ^ 64 → decimal n ≡ decimal (n / 10000) ++ four_digits (n % 10000)
unfolding four_digits
decimal-more n h l =
    let b : ℕ = n / 10 in
    let c : ℕ = b / 10 in
    let d : ℕ = c / 10 in
    sym (append-nil (decimal n))
    ∙ last-digit n [] (omega arith) l
    ∙ last-digit b (digit (n % 10) ∷ []) (omega arith) (omega arith)
    ∙ last-digit c (digit (b % 10) ∷ digit (n % 10) ∷ []) (omega arith) (omega arith)
    ∙ last-digit d (digit (c % 10) ∷ digit (b % 10) ∷ digit (n % 10) ∷ []) (omega arith) (omega arith)
    ∙ same_digits (omega arith) (omega arith) (omega arith) (omega arith) (omega arith)

-- a number below a power of ten has at most so many digits
within-short : (d f n : ℕ) → n < 10 ^ suc d → length (decimal_within f n) ≤ suc d
unfolding decimal_within
within-short d zero n h = omega arith
within-short zero (suc f) n h = omega (arith, ap length (within-small f n h))
within-short (suc d) (suc f) n h = within-grows f n (suc d) (within-short d f (n / 10) ((div-lt_iff_lt-mul (lit< tt)).1 (rw pow-suc at h)))

pub decimal-short : (d n : ℕ) → n < 10 ^ suc d → length (decimal n) ≤ suc d
unfolding decimal
decimal-short d n h = within-short d 20 n h
