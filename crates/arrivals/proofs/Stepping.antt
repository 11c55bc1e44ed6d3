-- A loop over the lanes: those below k are done, the others stand as they were.
use Prim.Native.Nat.{ℕ, ◌+◌, ◌*◌, ◌<◌, ◌≤◌}
use mathlib.Core.Path.{◌≡◌, refl, ap, ◌∙◌}
use mathlib.Core.List.{List}
use native.Mathlib.Omega.{arith}
use native.Mathlib.Decide.{ℕ_discrete}
use native.Mathlib.Nat.{mul-le-mul}
use lib.ListN.{length, get_or, set, length-set}
use lib.Seq.{get_or-set_same, get_or-set_other}
use Rattle.sheet.specs.Hops.{hops}
use Rattle.arrivals.specs.declared.Starts.{Starts}
use Rattle.arrivals.specs.declared.Row.{Row}
use Rattle.planner.specs.Schedule.{latest_start}
use Rattle.arrivals.specs.Lanes.{Steps, Away, Soon}

pub record Halfway (g : ℕ → ℕ → ℕ) (v : List ℕ) (k : ℕ) (w : List ℕ) : Type 0 where
  pub long : length w ≡ 16
  pub most : k ≤ 16
  pub done : (j : ℕ) → j < k → get_or w j 0 ≡ g j (get_or v j 0)
  pub left : (j : ℕ) → k ≤ j → get_or w j 0 ≡ get_or v j 0

pub halfway-none : (g : ℕ → ℕ → ℕ) (v : List ℕ) → length v ≡ 16 → Halfway g v 0 v
halfway-none g v e = record { long = e; most = omega arith; done = λ j h. absurd (omega arith); left = λ j h. refl }

pub halfway-more : {g : ℕ → ℕ → ℕ} {v w : List ℕ} {k x : ℕ} → Halfway g v k w → k < 16 → x ≡ g k (get_or w k 0) → Halfway g v (k + 1) (set w k x)
halfway-more {g} {v} {w} {k} {x} h l e =
    record {
      long = length-set w k x ∙ h.long;
      most = omega arith;
      done = λ j m. go j m (ℕ_discrete j k);
      left = λ j m. get_or-set_other w k j x 0 (λ q. omega arith) ∙ h.left j (omega arith);
    }
  where
    go : (j : ℕ) → j < k + 1 → Dec (j ≡ k) → get_or (set w k x) j 0 ≡ g j (get_or v j 0)
    go j m (yes q) = rw q (get_or-set_same w k x 0 (omega (arith, h.long)) ∙ e ∙ ap (g k) (h.left k (omega arith)))
    go j m (no q) = get_or-set_other w k j x 0 q ∙ h.done j (omega arith)

pub halfway-end : {g : ℕ → ℕ → ℕ} {q r : Starts} {k : ℕ} → Halfway g q.at k r.at → 16 ≤ k → Steps g q r
halfway-end h l = record { on = λ j m. h.done j (omega arith) }

-- a row of hops
pub row-end : {source : ℕ} {v : List ℕ} {r : Row} {k : ℕ} → Halfway (λ j x. hops source j) v k r.at → 16 ≤ k → Away source r
row-end h l = record { on = λ j m. h.done j (omega arith) }

-- a lane that is not done is as low as it was
pub halfway-soon : {g : ℕ → ℕ → ℕ} {q r : Starts} {k : ℕ} → Halfway g q.at k r.at → k < 16 → Soon q → get_or r.at k 0 ≤ latest_start
halfway-soon {k = k} h l low = omega (arith, h.left k (omega arith), low.soon k l)

-- a product of a cost and so many hops
pub times-le : (most cost hops : ℕ) → cost ≤ 65535 → hops ≤ most → cost * hops ≤ 65535 * most
times-le most cost hops h l = mul-le-mul h l
