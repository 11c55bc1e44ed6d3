-- Where the tasks of a sheet begin: behind the bytes of its board.
use Prim.Native.Nat.{ℕ, ◌+◌, ◌≤◌}
use mathlib.Core.Bool.{Bool, true, false}
use mathlib.Core.Path.{◌≡◌, refl}
use mathlib.Core.Logic.{◌≢◌}
use mathlib.Core.List.{[], ◌∷◌, ◌++◌}
use native.Mathlib.Omega.{arith}
use borrow.Author.Tests.{eq-eqb, ne_eqb}
use lib.ListN.{length}
use lib.Dec.{eqb}
use Rattle.folds.specs.Folds.{pick}
use Rattle.numbers.specs.Number.{number_bytes}
use Rattle.sheet.specs.Sizes.{board_size, unpacking_size, cube_size, front_by}
use Rattle.sheet.specs.Writing.{board_bytes}

-- without a cube, and with one
pub front-none : (u : ℕ) → u ≡ 0 → front_by u false ≡ board_size
unfolding front_by
front-none u h = rw (eq-eqb u 0 h)

pub front-some : (u : ℕ) → u ≢ 0 → front_by u false ≡ board_size + unpacking_size
unfolding front_by
front-some u h = rw (ne_eqb u 0 h)

pub front-cube : (u : ℕ) (c : Bool) → front_by u c ≡ front_by u false + pick c cube_size 0
unfolding front_by
front-cube u c = omega arith

pub front-most : (u : ℕ) (c : Bool) → front_by u c ≤ board_size + unpacking_size + cube_size
unfolding front_by
front-most u c = by (eqb u 0) c
  where
    by : (t c : Bool) → board_size + pick t 0 unpacking_size + pick c cube_size 0 ≤ board_size + unpacking_size + cube_size
    by true true = omega arith
    by true false = omega arith
    by false true = omega arith
    by false false = omega arith

pub front-least : (u : ℕ) (c : Bool) → board_size ≤ front_by u c
unfolding front_by
front-least u c = omega arith

pub board-length : (p l u : ℕ) (c : Bool) → length (board_bytes p l u c) ≡ front_by u c
unfolding front_by
board-length p l u c = by (eqb u 0) c
  where
    by : (t c : Bool) → length (0x4D ∷ p ∷ (number_bytes 4 l ++ (pick t [] (0x55 ∷ number_bytes 2 u) ++ pick c (0x48 ∷ []) []))) ≡ board_size + pick t 0 unpacking_size + pick c cube_size 0
    by true true = refl
    by true false = refl
    by false true = refl
    by false false = refl
