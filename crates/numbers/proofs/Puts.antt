-- Bytes put one behind the other, and at the front of lent output.
use Prim.Native.Nat.{ℕ, ◌+◌, ◌≤◌, ◌<◌}
use mathlib.Core.Path.{◌≡◌, refl, sym, ap, subst, ◌∙◌}
use mathlib.Core.List.{List, [], ◌∷◌, ◌++◌, append-nil}
use native.Mathlib.Omega.{arith}
use native.Mathlib.Nat.{add-zero, zero-add}
use borrow.Author.Tests.{lt-ltb, le-ltb}
use lib.ListN.{length, set, take, drop, length-append, take-append-drop}
use Rattle.folds.specs.Answers.{value, refused, fitting, written}
use Rattle.numbers.specs.Number.{stored, Put}
use Rattle.numbers.proofs.Laws.{stored_one, stored-two, stored-then}

pub put-none : (b : List ℕ) (at : ℕ) → Put b at [] b at
unfolding stored
put-none b at = record { left = sym (rw (append-nil (take at b), add-zero at) (take-append-drop at b)); next = omega arith }

-- what was put, by another name
pub put_as : {old last u v : List ℕ} {at r : ℕ} → u ≡ v → Put old at u last r → Put old at v last r
put_as {old} {last} {u} {v} {at} {r} e p = subst (λ (x : List ℕ). Put old at x last r) e p

pub put_then : {old mid last u v : List ℕ} {at a r : ℕ} → at ≤ length old → Put old at u mid a → Put mid a v last r → Put old at (u ++ v) last r
put_then {old} {mid} {last} {u} {v} {at} {a} {r} h p q =
    record { left = stored-then old mid last at a u v p.left q.left p.next h; next = omega (arith, p.next, q.next, length-append u v) }

pub put_one : (b : List ℕ) (at x : ℕ) → at < length b → Put b at (x ∷ []) (set b at x) (at + 1)
put_one b at x h = record { left = stored_one b at x h; next = refl }

pub put_two : (b : List ℕ) (at x y z : ℕ) → at + 2 ≤ length b → y ≡ z → Put b at (x ∷ z ∷ []) (set (set b at x) (at + 1) y) (at + 2)
put_two b at x y z h e = record { left = stored-two b at x y h ∙ ap (λ (v : ℕ). stored b at (x ∷ v ∷ [])) e; next = refl }

-- what is written where the result is refused, and at the front of the output
pub kept : (old : List ℕ) (n at : ℕ) → old ≡ written old (refused n at)
unfolding written
kept old n at = refl

pub front : (old v : List ℕ) → stored old 0 v ≡ written old (value v)
unfolding stored written
front old v = ap (λ (k : ℕ). v ++ drop k old) (zero-add (length v))

-- a result that is too long for what was lent, and one that is not
pub fits_not : {A : Type 0} (lent : ℕ) (r : List A) → lent < length r → fitting lent r ≡ refused 12 (length r)
fits_not lent r h = rw (lt-ltb lent (length r) h)

pub fits-well : {A : Type 0} (lent : ℕ) (r : List A) → length r ≤ lent → fitting lent r ≡ value r
fits-well lent r h = rw (le-ltb lent (length r) h)
