-- The order of bytes by the fronts that two lists share, and then by their lengths.
use Prim.Native.Nat.{ℕ, zero, suc, ◌+◌, min}
use native.Mathlib.Omega.{arith}
use mathlib.Core.Path.{◌≡◌, refl, sym, ap, ap₂, ◌∙◌}
use mathlib.Core.Bool.{Bool, true, false}
use mathlib.Core.List.{List, [], ◌∷◌}
use lib.Dec.{ltb}
use lib.ListN.{length, take}
use borrow.Author.Tests.{lt-ltb, le-ltb, ltb-true, ltb-false}
use Rattle.folds.specs.Folds.{pick}
use Rattle.std.specs.declared.cmp.Ordering.{Ordering}
use Rattle.std.specs.declared.cmp.Ordering.TheVariants.{Less, Equal, Greater}
use Rattle.std.specs.Ordering.{nat_cmp, ordering_then}
use Rattle.std.specs.Cmp.Lexicographic.{slice_cmp}
use Rattle.better.specs.Orders.{by_number, then_by, by_bytes}
use Rattle.better.proofs.Bridges.{number-is, then-is, bytes-is, then-then}

-- numbers that are greater by one compare as before
one_more : (m n i j : ℕ) → i ≡ m + 1 → j ≡ n + 1 → ltb m n ≡ ltb i j
one_more m n i j e f = go (ltb m n) refl
  where
    go : (s : Bool) → ltb m n ≡ s → s ≡ ltb i j
    go true p = sym (lt-ltb i j (omega (arith, ltb-true m n p)))
    go false p = sym (le-ltb i j (omega (arith, ltb-false m n p)))

number_more : (m n i j : ℕ) → i ≡ m + 1 → j ≡ n + 1 → by_number m n ≡ by_number i j
number_more m n i j e f = ap₂ (λ (s t : Bool). pick s Less (pick t Greater Equal)) (one_more m n i j e f) (one_more n m j i f e)

pub by-fronts : (a b : List ℕ) (n : ℕ) → n ≡ min (length a) (length b) → by_bytes a b ≡ then_by (by_bytes (take n a) (take n b)) (by_number (length a) (length b))
unfolding by_bytes
by-fronts [] [] zero e = refl
by-fronts [] [] (suc n) e = absurd (omega arith)
by-fronts [] (y ∷ b) zero e = sym (simp (lt-ltb 0 (length (y ∷ b)) (omega arith)))
by-fronts [] (y ∷ b) (suc n) e = absurd (omega arith)
by-fronts (x ∷ a) [] zero e = sym (simp (le-ltb (length (x ∷ a)) 0 (omega arith), lt-ltb 0 (length (x ∷ a)) (omega arith)))
by-fronts (x ∷ a) [] (suc n) e = absurd (omega arith)
by-fronts (x ∷ a) (y ∷ b) zero e = absurd (omega arith)
by-fronts (x ∷ a) (y ∷ b) (suc n) e =
    ap (then_by (by_number x y)) (by-fronts a b n (omega arith))
    ∙ sym (then-then (by_number x y) (by_bytes (take n a) (take n b)) (by_number (length a) (length b)))
    ∙ ap (then_by (then_by (by_number x y) (by_bytes (take n a) (take n b)))) (number_more (length a) (length b) (length (x ∷ a)) (length (y ∷ b)) (omega arith) (omega arith))

-- .. as std's orders compare them
pub fronts-then : (a b : List ℕ) (n : ℕ) (f l o : Ordering) → n ≡ min (length a) (length b) → f ≡ slice_cmp nat_cmp (take n a) (take n b) → l ≡ nat_cmp (length a) (length b) → o ≡ ordering_then f l
    → o ≡ slice_cmp nat_cmp a b
fronts-then a b n f l o e p q r =
    r ∙ then-is f l ∙ ap₂ then_by (p ∙ bytes-is (take n a) (take n b)) (q ∙ number-is (length a) (length b)) ∙ sym (by-fronts a b n e) ∙ sym (bytes-is a b)
