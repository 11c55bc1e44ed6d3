-- Puts, one directly behind the other.
use Prim.Native.Nat.{ℕ, ◌+◌, ◌/◌, ◌%◌, ◌^◌, ◌≤◌, ◌<◌}
use mathlib.Core.Path.{◌≡◌, refl, sym, ap, ◌∙◌}
use mathlib.Core.List.{List, [], ◌∷◌, append_assoc}
use native.Mathlib.Omega.{arith}
use lib.ListN.{length, set, take, drop, length-append}
use lib.Seq.{sets-eq}
use native.Mathlib.Numerals.{add-one, add-two, add-three}
use borrow.Rule.Slice.PartMut.{put_mid}
use Rattle.std.proofs.lemmas.List.Edits.{paste_all}
use Rattle.std.proofs.lemmas.Slice.{put_mid-paste}
use Rattle.numbers.specs.Number.{stored}
use Rattle.numbers.proofs.Laws.{stored-two, stored-three}
use Rattle.numbers.proofs.Puts.{put_one, put_then, put_as}
use Rattle.listing.specs.Listing.{decimal}
use Rattle.numbers.specs.Number.{Put}
use Rattle.listing_writer.specs.Lines.{four_digits}
use Rattle.listing_writer.proofs.Digits.{decimal-small, decimal-two, decimal-three, decimal-four, decimal-more}

-- a word, in a slice of the output
pub word-put : (b w s : List ℕ) (at k : ℕ) → s ≡ w → k ≡ length w → put_mid at k b s ≡ stored b at w
unfolding stored
word-put b w s at k e h = put_mid-paste at k b s w (length w) e (sym h) refl ∙ paste_all b at w (length w) refl ∙ sym (append_assoc (take at b) w (drop (at + length w) b))

-- a number of at most four digits
pub put-one-digit : (b : List ℕ) (at n x : ℕ) → n < 10 → at + length (decimal n) ≤ length b → x ≡ 48 + n → Put b at (decimal n) (set b at x) (at + 1)
put-one-digit b at n x h l e =
    put_as (ap (λ (k : ℕ). k ∷ []) e ∙ sym (decimal-small n h)) (put_one b at x (omega (arith, ap length (decimal-small n h))))

pub put-two-digits : (b : List ℕ) (at n x y : ℕ) → 10 ≤ n → n < 100 → at + length (decimal n) ≤ length b → x ≡ 48 + n / 10 → y ≡ 48 + n % 10
    → Put b at (decimal n) (set (set b at x) (at + 1) y) (at + 2)
put-two-digits b at n x y h k l d e =
    let f = decimal-two n h k in
    let g : x ∷ y ∷ [] ≡ decimal n = cc in
    put_as g record { left = stored-two b at x y (omega (arith, ap length f)); next = refl }

pub put-three-digits : (b : List ℕ) (at n x y z : ℕ) → 100 ≤ n → n < 1000 → at + length (decimal n) ≤ length b → x ≡ 48 + n / 100 → y ≡ 48 + n / 10 % 10 → z ≡ 48 + n % 10
    → Put b at (decimal n) (set (set (set b at x) (at + 1) y) (at + 2) z) (at + 3)
put-three-digits b at n x y z h k l d e f =
    let g = decimal-three n h k in
    let q : x ∷ y ∷ z ∷ [] ≡ decimal n = cc in
    put_as q record { left = stored-three b at x y z (omega (arith, ap length g)); next = refl }

stored-four : (b : List ℕ) (i x y z v : ℕ) → i + 4 ≤ length b → set (set (set (set b i x) (i + 1) y) (i + 2) z) (i + 3) v ≡ stored b i (x ∷ y ∷ z ∷ v ∷ [])
unfolding stored
stored-four b i x y z v h = rw (add-one, add-two, add-three) (sets-eq (x ∷ y ∷ z ∷ v ∷ []) b i h)

pub put-four-digits : (b : List ℕ) (at n x y z v : ℕ) → at + 4 ≤ length b → x ≡ 48 + n / 1000 → y ≡ 48 + n / 100 % 10 → z ≡ 48 + n / 10 % 10 → v ≡ 48 + n % 10
    → Put b at (four_digits n) (set (set (set (set b at x) (at + 1) y) (at + 2) z) (at + 3) v) (at + 4)
unfolding four_digits
put-four-digits b at n x y z v l d e f g =
    let q : x ∷ y ∷ z ∷ v ∷ [] ≡ four_digits n = cc in
    put_as q record { left = stored-four b at x y z v l; next = refl }

pub four-room : (b : List ℕ) (at n : ℕ) → 1000 ≤ n → n < 10000 → at + length (decimal n) ≤ length b → at + 4 ≤ length b
unfolding four_digits
four-room b at n h k l = omega (arith, ap length (decimal-four n h k))

-- a longer one
module _ (b : List ℕ) (at n : ℕ) (h : 10000 ≤ n) (k : n < 2 ^ 64) (l : at + length (decimal n) ≤ length b) where
  more-length : length (decimal n) ≡ length (decimal (n / 10000)) + 4
  unfolding four_digits
  more-length = ap length (decimal-more n h k) ∙ length-append (decimal (n / 10000)) (four_digits (n % 10000))

  pub high-room : at + length (decimal (n / 10000)) ≤ length b
  high-room = omega (arith, more-length)

  pub low-room : (m : List ℕ) {j : ℕ} → length m ≡ length b → Put b at (decimal (n / 10000)) m j → j + 4 ≤ length m
  low-room m e p = omega (arith, more-length, p.next)

  pub put-more : (m : List ℕ) {r : List ℕ} {i j : ℕ} → Put b at (decimal (n / 10000)) m i → Put m i (four_digits (n % 10000)) r j → Put b at (decimal n) r j
  put-more m p q = put_as (sym (decimal-more n h k)) (put_then (omega arith) p q)
