-- Between processors of a board there are at most four hops; there is one where they differ, and none else. By all of the sixteen times sixteen.
use Prim.Native.Nat.{ℕ, ◌*◌, ◌≤◌, ◌<◌}
use mathlib.Core.Path.{◌≡◌, refl}
use mathlib.Core.Bool.{Bool, true, false}
use mathlib.Core.Logic.{⊎_elim}
use native.Mathlib.Omega.{arith}
use borrow.Author.Tests.{eqb-true, ltb-true, leb-true}
use lib.Count.{ones, ones_in}
use lib.Dec.{eqb, ltb, leb}
use native.Mathlib.Nat.{mul_comm, mul-le-mul, le_refl}
use Rattle.folds.specs.Folds.{pick, either, all}
use Rattle.folds.proofs.Tests.{either-part}
use Rattle.folds.proofs.Laws.{all-each}
use Rattle.sheet.specs.Sheet.{Sheet, cost_of}
use Rattle.sheet.specs.Hops.{hops, link_time}

-- of one pair
few : ℕ → ℕ → Bool
few j k = leb (hops j k) 4

apart : ℕ → ℕ → Bool
apart j k = either (eqb j k) (ltb 0 (hops j k))

home : ℕ → Bool
home k = eqb (hops k k) 0

all-few : all 16 (λ j. all 16 (few j)) ≡ true
unfolding all few hops ones ones_in
all-few = refl

all_apart : all 16 (λ j. all 16 (apart j)) ≡ true
unfolding all apart hops ones ones_in
all_apart = refl

all-home : all 16 home ≡ true
unfolding all home hops ones ones_in
all-home = refl

pub few-hops : (j k : ℕ) → j < 16 → k < 16 → hops j k ≤ 4
unfolding few
few-hops j k h g = leb-true (hops j k) 4 (all-each 16 (few j) (all-each 16 (λ j. all 16 (few j)) all-few j h) k g)

pub some-hop : (j k : ℕ) → j < 16 → k < 16 → (j ≡ k → ⊥) → 1 ≤ hops j k
unfolding apart
some-hop j k h g d =
    let e = all-each 16 (apart j) (all-each 16 (λ j. all 16 (apart j)) all_apart j h) k g in
    ⊎_elim (λ (q : eqb j k ≡ true). absurd (d (eqb-true j k q))) (λ (q : ltb 0 (hops j k) ≡ true). ltb-true 0 (hops j k) q) (either-part (eqb j k) (ltb 0 (hops j k)) e)

pub no-hop : (k : ℕ) → k < 16 → hops k k ≡ 0
unfolding home
no-hop k h = eqb-true (hops k k) 0 (all-each 16 home all-home k h)

-- so a message between two processors of a board takes at most four times its cost
pub time-most : (s : Sheet) (l j k : ℕ) → j < 16 → k < 16 → link_time s l j k ≤ 4 * cost_of s l
unfolding link_time
time-most s l j k h g = by s.cube
  where
    times : (c n : ℕ) → n ≤ 4 → c * n ≤ 4 * c
    times c n m = rw (mul_comm c n) (mul-le-mul m (le_refl c))

    by : (t : Bool) → pick t (cost_of s l * hops j k) (cost_of s l) ≤ 4 * cost_of s l
    by true = times (cost_of s l) (hops j k) (few-hops j k h g)
    by false = omega arith

-- where the board is no cube a message takes just its cost
pub flat-time : (s : Sheet) (l j k : ℕ) → s.cube ≡ false → link_time s l j k ≡ cost_of s l
unfolding link_time
flat-time s l j k e = rw e
