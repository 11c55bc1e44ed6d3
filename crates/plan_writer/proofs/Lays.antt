-- Bytes laid one behind the other, the last of them over whatever the others left.
use Prim.Native.Nat.{ℕ, ◌+◌, ◌-◌, ◌≤◌}
use mathlib.Core.Path.{◌≡◌, refl, sym, ap, ap₂, subst, ◌∙◌}
use mathlib.Core.List.{List, [], ◌++◌, append_assoc, append-nil}
use native.Mathlib.Omega.{arith}
use lib.ListN.{length, take, drop, length-append, length-drop, drop_of_length-le}
use lib.Seq.{length-take-le, take_all, take_at, drop_at, drop-drop, take-append-add, drop-append-add}
use borrow.Rule.Slice.PartMut.{mid_of, post_of, put_mid}
use Rattle.numbers.specs.Number.{stored, Put}
use Rattle.plan_writer.specs.Laid.{Laid}

-- lists that are equal from m on are so from n on
further : (x y : List ℕ) (m n : ℕ) → m ≤ n → drop m x ≡ drop m y → drop n x ≡ drop n y
further x y m n h e =
    let z : m + (n - m) ≡ n = omega arith in
    ap (λ (k : ℕ). drop k x) (sym z) ∙ sym (drop-drop (n - m) m x) ∙ ap (λ (l : List ℕ). drop (n - m) l) e ∙ drop-drop (n - m) m y ∙ ap (λ (k : ℕ). drop k y) z

-- a store: what stands up to its end, before it and behind it
module _ (b v last : List ℕ) (at : ℕ) (h : at ≤ length b) (e : last ≡ stored b at v) where
  whole : length (take at b ++ v) ≡ at + length v
  whole = omega (arith, length-append (take at b) v, length-take-le at b h)

  stored-front : take (at + length v) last ≡ take at b ++ v
  unfolding stored
  stored-front = ap (λ (l : List ℕ). take (at + length v) l) e ∙ take_at (take at b ++ v) (drop (at + length v) b) (at + length v) whole

  stored-before : take at last ≡ take at b
  unfolding stored
  stored-before =
      ap (λ (l : List ℕ). take at l) (e ∙ append_assoc (take at b) v (drop (at + length v) b)) ∙ take_at (take at b) (v ++ drop (at + length v) b) at (length-take-le at b h)

  stored_back : drop (at + length v) last ≡ drop (at + length v) b
  unfolding stored
  stored_back = ap (λ (l : List ℕ). drop (at + length v) l) e ∙ drop_at (take at b ++ v) (drop (at + length v) b) (at + length v) whole

pub laid_none : (b : List ℕ) (at : ℕ) → Laid b at [] b at
laid_none b at = record { front = sym (append-nil (take at b)); back = refl; next = omega arith }

-- what was laid, by another name
pub laid_as : {old last u v : List ℕ} {at r : ℕ} → u ≡ v → Laid old at u last r → Laid old at v last r
laid_as {old} {last} {u} {v} {at} {r} e p = subst (λ (x : List ℕ). Laid old at x last r) e p

pub laid_then : {old mid last u v : List ℕ} {at a r : ℕ} → Laid old at u mid a → Laid mid a v last r → Laid old at (u ++ v) last r
laid_then {old} {mid} {last} {u} {v} {at} {a} {r} p q =
    record {
      front = q.front ∙ ap (λ (x : List ℕ). x ++ v) p.front ∙ append_assoc (take at old) u v;
      back = q.back ∙ further mid old (a + 3) (r + 3) (omega (arith, q.next)) p.back;
      next = omega (arith, p.next, q.next, length-append u v);
    }

pub laid-put : {old v last : List ℕ} {at r : ℕ} → at ≤ length old → Put old at v last r → Laid old at v last r
laid-put {old} {v} {last} {at} {r} h p =
    let back : drop r last ≡ drop r old =
    ap (λ (k : ℕ). drop k last) p.next ∙ stored_back old v last at h p.left ∙ ap (λ (k : ℕ). drop k old) (sym p.next) in
    record {
      front = ap (λ (k : ℕ). take k last) p.next ∙ stored-front old v last at h p.left;
      back = further last old r (r + 3) (omega arith) back;
      next = p.next;
    }

-- three bytes that are to be written over
pub laid-over : {old v last : List ℕ} {at r : ℕ} → at ≤ length old → length v ≡ 3 → Put old at v last r → Laid old at [] last at
laid-over {old} {v} {last} {at} h l p =
    record {
      front = stored-before old v last at h p.left ∙ sym (append-nil (take at old));
      back = ap (λ (k : ℕ). drop (at + k) last) (sym l) ∙ stored_back old v last at h p.left ∙ ap (λ (k : ℕ). drop (at + k) old) l;
      next = omega arith;
    }

-- at least three bytes in the end
pub laid-last : (v : List ℕ) {old mid last u : List ℕ} {a : ℕ} → 3 ≤ length v → Laid old 0 u mid a → last ≡ stored mid a v → last ≡ stored old 0 (u ++ v)
unfolding stored
laid-last v {old} {mid} {last} {u} {a} h p e =
    let z : a + length v ≡ 0 + length (u ++ v) = omega (arith, p.next, length-append u v) in
    e ∙ ap₂ (λ (x y : List ℕ). x ++ v ++ y) p.front (further mid old (a + 3) (a + length v) (omega (arith, h)) p.back) ∙ ap (λ (k : ℕ). u ++ v ++ drop k old) z

-- a callee that was lent what follows the first i bytes and laid v at its start has laid v at i
pub laid-lent : (b last v : List ℕ) (i n : ℕ) → i ≤ length b → Laid (mid_of i (length b - i) b) 0 v last n → Laid b i v (put_mid i (length b - i) b last) (i + n)
laid-lent b last v i n h p =
    let mid : mid_of i (length b - i) b ≡ drop i b = take_all (length b - i) (drop i b) (omega (arith, length-drop i b)) in
    let post : post_of i (length b - i) b ≡ [] = drop_of_length-le (drop i b) {i = length b - i} (omega (arith, length-drop i b)) in
    let whole : put_mid i (length b - i) b last ≡ take i b ++ last = ap (λ (x : List ℕ). take i b ++ (last ++ x)) post ∙ ap (λ (x : List ℕ). take i b ++ x) (append-nil last) in
    let long : length (take i b) ≡ i = length-take-le i b h in
    let q : i + n + 3 ≡ length (take i b) + (n + 3) = omega arith in
    let z : i + (n + 3) ≡ i + n + 3 = omega arith in
    record {
      front =
          ap (λ (x : List ℕ). take (i + n) x) whole ∙ ap (λ (k : ℕ). take (k + n) (take i b ++ last)) (sym long) ∙ take-append-add (take i b) last n
          ∙ ap (λ (x : List ℕ). take i b ++ x) p.front;
      back =
          ap (λ (x : List ℕ). drop (i + n + 3) x) whole ∙ ap (λ (k : ℕ). drop k (take i b ++ last)) q ∙ drop-append-add (take i b) last (n + 3)
          ∙ p.back ∙ ap (λ (x : List ℕ). drop (n + 3) x) mid ∙ drop-drop (n + 3) i b ∙ ap (λ (k : ℕ). drop k b) z;
      next = omega (arith, p.next);
    }
