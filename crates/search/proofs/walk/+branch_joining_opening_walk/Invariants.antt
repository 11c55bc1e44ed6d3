-- The functions branch, joining, opening, walk (src/walk.rt), which call each other, keep their contracts: fewer tasks are left at each call of `walk`.
use lib.ListN.{length}
use mathlib.Core.Path.{◌≡◌}
use Prim.Native.Nat.{◌+◌, ◌*◌}
use Rattle.search.proofs.Folds.{Turned}
use Rattle.search.proofs.walk.+branch_joining_opening_walk.Given as goal

abbrev pub decreases-branch : goal.decreases-branch
decreases-branch l = 3 * l.left + 2

abbrev pub decreases-joining : goal.decreases-joining
decreases-joining l = 3 * l.left + 1

abbrev pub decreases-opening : goal.decreases-opening
decreases-opening l = 3 * l.left + 1

abbrev pub decreases-walk : goal.decreases-walk
decreases-walk l = 3 * l.left

abbrev pub invariant-walk-loop-t : goal.invariant-walk-loop-t
invariant-walk-loop-t l = Turned l.sheet l.v l.b l.initial.k l.left l.t l.k × (length l.w ≡ length l.initial.w) × (length l.buf ≡ length l.initial.buf) × (length l.other ≡ length l.initial.other)
