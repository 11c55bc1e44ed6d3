-- Laws of numbers in bytes, over the width.
use Prim.Native.Nat.{ℕ, zero, suc, ◌+◌, ◌*◌, ◌/◌, ◌%◌, ◌^◌, ◌-◌, ◌≤◌, ◌<◌}
use mathlib.Core.Path.{◌≡◌, refl, sym, ap, ap₂, ◌∙◌}
use mathlib.Core.List.{List, [], ◌∷◌, ◌++◌, append_assoc, append-nil}
use native.Mathlib.Nat.{pow-suc, div-lt_iff_lt-mul, zero-add, add-suc, add_assoc}
use native.Mathlib.Omega.{arith}
use lib.ListN.{length, get_or, set, take, drop, length-append, length-take, length-drop, drop_of_length-le}
use lib.Seq.{get_or-drop, get_or-append-add, take_all, take_at, drop-append-add, drop-drop, drop-cons, sets-eq}
use native.Mathlib.Numerals.{add-one, add-two}
use lib.Dec.{lit<}
use borrow.Rule.Slice.PartMut.{mid_of, post_of, put_mid}
use Rattle.numbers.specs.Number.{Bytes, number_at, number_bytes, stored}

-- bytes, from one of them on
pub drop-bytes : (n : ℕ) (b : List ℕ) → Bytes b → Bytes (drop n b)
drop-bytes n b h i = rw (get_or-drop n b i 0) (h (n + i))

-- reading past the first byte
pub number_at-cons : (w : ℕ) (x : ℕ) (b : List ℕ) (i : ℕ) → number_at w (x ∷ b) (suc i) ≡ number_at w b i
unfolding number_at
number_at-cons zero x b i = refl
number_at-cons (suc w) x b i = ap (λ (k : ℕ). get_or b i 0 + 256 * k) (number_at-cons w x b (suc i))

-- reading what follows the first n bytes
pub number_at-drop : (w n : ℕ) (b : List ℕ) (i : ℕ) → number_at w (drop n b) i ≡ number_at w b (n + i)
unfolding number_at
number_at-drop zero n b i = refl
number_at-drop (suc w) n b i = rw (get_or-drop, number_at-drop w n b (suc i), add-suc)

-- a number of one byte in two
pub low-bytes : (l : ℕ) → l < 256 → number_bytes 2 l ≡ l ∷ 0 ∷ []
low-bytes l h =
    let a : l % 256 ≡ l = omega arith in
    let b : l / 256 ≡ 0 = omega arith in
    rw (a, b)

-- a number that fits w bytes is read back from its bytes
pub number-of-bytes : (w n : ℕ) (rest : List ℕ) → n < 256 ^ w → number_at w (number_bytes w n ++ rest) 0 ≡ n
unfolding number_at
number-of-bytes zero n rest h = omega arith
number-of-bytes (suc w) n rest h =
    let small : n / 256 < 256 ^ w = (div-lt_iff_lt-mul (lit< tt)).1 (rw pow-suc at h) in
    let tail : number_at w (n % 256 ∷ (number_bytes w (n / 256) ++ rest)) 1 ≡ n / 256 =
    number_at-cons w (n % 256) (number_bytes w (n / 256) ++ rest) 0 ∙ number-of-bytes w (n / 256) rest small
    in
    omega arith

-- what stands before i is left, and what was stored is read back
pub number_at-append : (w : ℕ) (p b : List ℕ) (i : ℕ) → number_at w (p ++ b) (length p + i) ≡ number_at w b i
unfolding number_at
number_at-append zero p b i = refl
number_at-append (suc w) p b i = rw (get_or-append-add, ← add-suc, number_at-append w p b (suc i))

pub length-stored : (b : List ℕ) (i : ℕ) (v : List ℕ) → i + length v ≤ length b → length (stored b i v) ≡ length b
unfolding stored
length-stored b i v h = simp (length-append, length-take, length-drop) (omega arith)

-- one store behind another is one store
pub stored-stored : (b : List ℕ) (i : ℕ) (u v : List ℕ) → i ≤ length b → stored (stored b i u) (i + length u) v ≡ stored b i (u ++ v)
unfolding stored
stored-stored b i u v l =
    let p : List ℕ = take i b ++ u in
    let n : ℕ = i + length u in
    let e : length p ≡ n = simp (length-append, length-take) (omega arith) in
    let front : take n (p ++ drop n b) ≡ p = take_at p (drop n b) n e in
    let back : drop (n + length v) (p ++ drop n b) ≡ drop (n + length v) b =
    ap (λ (k : ℕ). drop (k + length v) (p ++ drop n b)) (sym e) ∙ drop-append-add p (drop n b) (length v) ∙ drop-drop (length v) n b
    in
    rw (front, back) (simp (append_assoc, length-append, add_assoc))

-- a store, and then one right behind it
pub stored-then : (b m r : List ℕ) (i j : ℕ) (u v : List ℕ) → m ≡ stored b i u → r ≡ stored m j v → j ≡ i + length u → i ≤ length b → r ≡ stored b i (u ++ v)
stored-then b m r i j u v p q e l = q ∙ ap₂ (λ (x : List ℕ) (k : ℕ). stored x k v) p e ∙ stored-stored b i u v l

-- a store into what follows the first i bytes
pub stored-part : (b : List ℕ) (i : ℕ) (v : List ℕ) → take i b ++ stored (drop i b) 0 v ≡ stored b i v
unfolding stored
stored-part b i v = rw (drop-drop, zero-add) (sym (append_assoc (take i b) v (drop (i + length v) b)))

pub stored_one : (b : List ℕ) (i x : ℕ) → i < length b → set b i x ≡ stored b i (x ∷ [])
unfolding stored
stored_one b i x h = sets-eq (x ∷ []) b i (omega arith)

-- two bytes written one after the other
pub stored-two : (b : List ℕ) (i x y : ℕ) → i + 2 ≤ length b → set (set b i x) (i + 1) y ≡ stored b i (x ∷ y ∷ [])
unfolding stored
stored-two b i x y h = rw add-one (sets-eq (x ∷ y ∷ []) b i h)

four : {a b c d a' b' c' d' : ℕ} → a ≡ a' → b ≡ b' → c ≡ c' → d ≡ d' → a ∷ b ∷ c ∷ d ∷ [] ≡ a' ∷ b' ∷ c' ∷ d' ∷ []
four p q r s = cc

pub stored-three : (b : List ℕ) (i x y z : ℕ) → i + 3 ≤ length b → set (set (set b i x) (i + 1) y) (i + 2) z ≡ stored b i (x ∷ y ∷ z ∷ [])
unfolding stored
stored-three b i x y z h = rw (add-one, add-two) (sets-eq (x ∷ y ∷ z ∷ []) b i h)

-- nothing stored
pub stored-none : (b : List ℕ) → b ≡ stored b 0 []
unfolding stored
stored-none b = refl

-- a number of four bytes written as two numbers of two
pub stored-halves : (b m r : List ℕ) (i v : ℕ) → m ≡ stored b i (number_bytes 2 (v % 65536)) → r ≡ stored m (i + 2) (number_bytes 2 (v / 65536)) → i ≤ length b → r ≡ stored b i (number_bytes 4 v)
stored-halves b m r i v p q l =
    let whole : number_bytes 2 (v % 65536) ++ number_bytes 2 (v / 65536) ≡ number_bytes 4 v =
    four (omega arith) (omega arith) (omega arith) (omega arith)
    in
    q ∙ ap (λ (l : List ℕ). stored l (i + 2) (number_bytes 2 (v / 65536))) p ∙ stored-stored b i (number_bytes 2 (v % 65536)) (number_bytes 2 (v / 65536)) l ∙ ap (stored b i) whole

-- bytes are read back as they were
pub bytes-of-number : (w : ℕ) (b : List ℕ) (i : ℕ) → i + w ≤ length b → ((k : ℕ) → get_or b k 0 < 256) → number_bytes w (number_at w b i) ≡ take w (drop i b)
unfolding number_at
bytes-of-number zero b i h small = refl
bytes-of-number (suc w) b i h small =
    let r : ℕ = number_at w b (suc i) in
    let low : (get_or b i 0 + 256 * r) % 256 ≡ get_or b i 0 = omega (arith, small i) in
    let high : (get_or b i 0 + 256 * r) / 256 ≡ r = omega (arith, small i) in
    rw (low, high, drop-cons b i 0 (omega arith)) (ap (λ (l : List ℕ). get_or b i 0 ∷ l) (bytes-of-number w b (suc i) (omega arith) small))

-- a callee that was lent what follows the first i bytes and stored v at its start has stored v at i
pub stored-lent : (b last v : List ℕ) (i : ℕ) → i ≤ length b → last ≡ stored (mid_of i (length b - i) b) 0 v → put_mid i (length b - i) b last ≡ stored b i v
stored-lent b last v i l e =
    let mid : mid_of i (length b - i) b ≡ drop i b = take_all (length b - i) (drop i b) (omega (arith, length-drop i b)) in
    let post : post_of i (length b - i) b ≡ [] = drop_of_length-le (drop i b) {i = length b - i} (omega (arith, length-drop i b)) in
    let same : last ≡ stored (drop i b) 0 v = e ∙ ap (λ (x : List ℕ). stored x 0 v) mid in
    rw (post, append-nil, same) (stored-part b i v)

-- a number in bytes fits its width
pub number_lt : (w : ℕ) (b : List ℕ) (i : ℕ) → ((k : ℕ) → get_or b k 0 < 256) → number_at w b i < 256 ^ w
unfolding number_at
number_lt zero b i small = omega arith
number_lt (suc w) b i small = omega (arith, number_lt w b (suc i) small, small i, pow-suc 256 w)
