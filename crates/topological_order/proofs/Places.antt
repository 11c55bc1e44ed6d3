-- The word of a task: its links still to be counted off, or its place in the queue.
use Prim.Native.Nat.{ℕ, ◌+◌, ◌-◌, ◌*◌, ◌/◌, ◌%◌, ◌≤◌, ◌<◌}
use mathlib.Core.Path.{◌≡◌, ap}
use mathlib.Core.Logic.{◌≢◌}
use mathlib.Core.List.{List}
use native.Mathlib.Omega.{arith}
use lib.ListN.{length, get_or, set}
use lib.Seq.{get_or-set_same, get_or-set_other}
use Rattle.workspace.specs.Area.{marks_at}
use Rattle.topological_order.specs.Words.{place_in, degree_in}

module _ (w : List ℕ) (t : ℕ) where
  pub place-le : place_in w t ≤ 256
  unfolding place_in
  place-le = omega arith

  pub degree-short : degree_in w t < 65536
  unfolding degree_in
  degree-short = omega arith

  -- a task in the queue, and one that is not
  pub place-in : 65536 ≤ get_or w (marks_at + t) 0 → place_in w t < 256
  unfolding place_in
  place-in h = omega arith

  pub place-off : get_or w (marks_at + t) 0 < 65536 → 256 ≤ place_in w t
  unfolding place_in
  place-off h = omega arith

  pub word-is : 256 ≤ place_in w t → get_or w (marks_at + t) 0 ≡ degree_in w t
  unfolding place_in degree_in
  word-is h = omega arith

-- where the word is as it was
pub place_same : (w w' : List ℕ) (t : ℕ) → get_or w' (marks_at + t) 0 ≡ get_or w (marks_at + t) 0 → place_in w' t ≡ place_in w t
unfolding place_in
place_same w w' t e = ap (λ (x : ℕ). 256 - x / 65536) e

pub degree-same : (w w' : List ℕ) (t : ℕ) → get_or w' (marks_at + t) 0 ≡ get_or w (marks_at + t) 0 → degree_in w' t ≡ degree_in w t
unfolding degree_in
degree-same w w' t e = ap (λ (x : ℕ). x % 65536) e

-- a store elsewhere
module _ (w : List ℕ) (j x t : ℕ) (far : marks_at + t ≢ j) where
  pub place-far : place_in (set w j x) t ≡ place_in w t
  place-far = place_same w (set w j x) t (get_or-set_other w j (marks_at + t) x 0 far)

  pub degree-far : degree_in (set w j x) t ≡ degree_in w t
  degree-far = degree-same w (set w j x) t (get_or-set_other w j (marks_at + t) x 0 far)

-- a number of links, and a place
module _ (w : List ℕ) (t : ℕ) (here : marks_at + t < length w) where
  pub place_none : (x : ℕ) → x < 65536 → place_in (set w (marks_at + t) x) t ≡ 256
  unfolding place_in
  place_none x h = omega (arith, get_or-set_same w (marks_at + t) x 0 here)

  pub degree-put : (x : ℕ) → x < 65536 → degree_in (set w (marks_at + t) x) t ≡ x
  unfolding degree_in
  degree-put x h = omega (arith, get_or-set_same w (marks_at + t) x 0 here)

  pub place-put : (k : ℕ) → k < 256 → place_in (set w (marks_at + t) (65536 * (256 - k))) t ≡ k
  unfolding place_in
  place-put k h = omega (arith, get_or-set_same w (marks_at + t) (65536 * (256 - k)) 0 here)

  pub degree-none : (k : ℕ) → degree_in (set w (marks_at + t) (65536 * (256 - k))) t ≡ 0
  unfolding degree_in
  degree-none k = omega (arith, get_or-set_same w (marks_at + t) (65536 * (256 - k)) 0 here)
