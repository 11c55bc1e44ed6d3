-- std's orders of numbers, of bytes and of one order behind another are those of specs/Orders.
use Prim.Native.Nat.{ℕ}
use native.Mathlib.Omega.{arith}
use mathlib.Core.Path.{◌≡◌, refl}
use mathlib.Core.Bool.{Bool, true, false}
use mathlib.Core.List.{List, [], ◌∷◌}
use lib.Dec.{ltb}
use borrow.Author.Tests.{ltb-true, ltb-false, eq-eqb, ne_eqb}
use Rattle.std.specs.declared.cmp.Ordering.{Ordering}
use Rattle.std.specs.declared.cmp.Ordering.TheVariants.{Less, Equal, Greater}
use Rattle.std.specs.Ordering.{nat_cmp, ordering_then}
use Rattle.std.specs.Cmp.Lexicographic.{slice_cmp}
use Rattle.better.specs.Orders.{by_number, then_by, by_bytes}

pub number-is : (a b : ℕ) → nat_cmp a b ≡ by_number a b
number-is a b = go (ltb a b) (ltb b a) refl refl
  where
    go : (s t : Bool) → ltb a b ≡ s → ltb b a ≡ t → nat_cmp a b ≡ by_number a b
    go true t p q = simp p
    go false true p q = let l = ltb-true b a q in simp (p, q, ne_eqb a b (λ e. omega arith))
    go false false p q =
        let l = ltb-false a b p in
        let m = ltb-false b a q in
        simp (p, q, eq-eqb a b (omega arith))

pub then-is : (o p : Ordering) → ordering_then o p ≡ then_by o p
then-is Less p = refl
then-is Equal p = refl
then-is Greater p = refl

pub bytes-is : (a b : List ℕ) → slice_cmp nat_cmp a b ≡ by_bytes a b
unfolding by_bytes
bytes-is [] [] = refl
bytes-is [] (y ∷ b) = refl
bytes-is (x ∷ a) [] = refl
bytes-is (x ∷ a) (y ∷ b) = rw (number-is x y, bytes-is a b) (then-is (by_number x y) (by_bytes a b))

-- of three orders, it does not matter which two are joined first
pub then-then : (x y z : Ordering) → then_by (then_by x y) z ≡ then_by x (then_by y z)
then-then Less y z = refl
then-then Equal y z = refl
then-then Greater y z = refl
