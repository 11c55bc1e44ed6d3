-- Bytes laid over a list, one part behind the other; and parts of a list.
use Prim.Native.Nat.{ℕ, suc, ◌+◌, ◌-◌, ◌≤◌, ◌<◌}
use native.Mathlib.Omega.{arith}
use mathlib.Core.Path.{◌≡◌, refl, sym, ap, ◌∙◌, subst}
use mathlib.Core.List.{List, [], ◌∷◌, ◌++◌}
use lib.ListN.{length, get_or, set, take, drop, length-append, length-drop}
use lib.Seq.{sets, length-sets, sets-eq, take-suc, take_all, get_or-drop}
use Rattle.folds.specs.Answers.{value, written}
use Rattle.numbers.proofs.Puts.{front}
use Rattle.numbers.specs.Number.{stored}
use Rattle.releasing.specs.Inserting.{Lay, part}

sets_then : (old : List ℕ) (at : ℕ) (u v : List ℕ) → sets old at (u ++ v) ≡ sets (sets old at u) (at + length u) v
sets_then old at [] v = let z : at ≡ at + 0 = omega arith in ap (λ (i : ℕ). sets old i v) z
sets_then old at (x ∷ u) v =
    let z : suc at + length u ≡ at + suc (length u) = omega arith in
    sets_then (set old at x) (suc at) u v ∙ ap (λ (i : ℕ). sets (sets (set old at x) (suc at) u) i v) z

pub lay-none : (old : List ℕ) (at : ℕ) → Lay old at [] old at
lay-none old at = record { left = refl; next = omega arith }

pub lay-as : {old last u v : List ℕ} {at r : ℕ} → u ≡ v → Lay old at u last r → Lay old at v last r
lay-as {old} {last} {u} {v} {at} {r} e h = subst (λ (x : List ℕ). Lay old at x last r) e h

pub lay-then : {old mid last u v : List ℕ} {at a r : ℕ} → Lay old at u mid a → Lay mid a v last r → Lay old at (u ++ v) last r
lay-then {old} {mid} {last} {u} {v} {at} {a} {r} h g =
    record {
      left = g.left ∙ ap (λ (x : List ℕ). sets x a v) h.left ∙ ap (λ (i : ℕ). sets (sets old at u) i v) h.next ∙ sym (sets_then old at u v);
      next = omega (arith, h.next, g.next, length-append u v);
    }

pub lay-one : {old mid last u : List ℕ} {at a : ℕ} (x : ℕ) → Lay old at u mid a → last ≡ set mid a x → Lay old at (u ++ x ∷ []) last (a + 1)
lay-one x h e = lay-then h (record { left = e; next = refl })

pub lay-long : {old last v : List ℕ} {at r : ℕ} → Lay old at v last r → length last ≡ length old
lay-long {old} {last} {v} {at} h = ap length h.left ∙ length-sets old at v

-- at the front of what is long enough
pub lay-front : {old last v : List ℕ} {r : ℕ} → Lay old 0 v last r → length v ≤ length old → last ≡ written old (value v)
unfolding stored
lay-front {old} {last} {v} h l = h.left ∙ sets-eq v old 0 (omega arith) ∙ front old v

-- parts of a list
pub part_none : (b : List ℕ) (a : ℕ) → part b a a ≡ []
part_none b a = let z : a - a ≡ 0 = omega arith in ap (λ (n : ℕ). take n (drop a b)) z

pub part-more : (b : List ℕ) (a i : ℕ) → a ≤ i → i < length b → part b a (i + 1) ≡ part b a i ++ get_or b i 0 ∷ []
part-more b a i h l =
    let z : (i + 1) - a ≡ suc (i - a) = omega arith in
    let y : a + (i - a) ≡ i = omega arith in
    ap (λ (n : ℕ). take n (drop a b)) z ∙ take-suc (drop a b) (i - a) 0 (omega (arith, length-drop a b))
    ∙ ap (λ (x : ℕ). take (i - a) (drop a b) ++ x ∷ []) (get_or-drop a b (i - a) 0 ∙ ap (λ (j : ℕ). get_or b j 0) y)

pub part-rest : (b : List ℕ) (a : ℕ) → a ≤ length b → part b a (length b) ≡ drop a b
part-rest b a h = take_all (length b - a) (drop a b) (omega (arith, length-drop a b))
