-- The least time for small sheets, of calls of zeldrupa_least and zeldrupa_check. `Gives..` is what a call of the function of that name promises, word for word.
use Rattle.std.specs.Prelude.{ℕ, ◌-◌, ◌≤◌, ◌<◌, true, false, ◌≡◌, ◌⊎◌, ◌↔◌, List, length, take}
use Rattle.folds.specs.Answers.{value}
use Rattle.numbers.specs.Number.{Bytes}
use Rattle.workspace.specs.Area.{fixed}
use Rattle.sheet.specs.Sheet.{Sheet, task_count}
use Rattle.graph.specs.Graph.{read_sheet}
use Rattle.bundle.specs.Bundle.{Bundle}
use Rattle.bundle.specs.Format.{read_bundle}
use Rattle.least.specs.Written.{Written, NoRelease}
use Rattle.least.specs.Least.{most}
use Rattle.zeldrupa.specs.Promises.{GivesCheck, GivesLeast}
use Rattle.assurance.specs.Choosing.{Accepted, Before}

-- a bundle for a sheet, both read, "in the planner's written form"
pub record InForm (sheet bundle : List ℕ) : Type 0 where
  pub s : Sheet
  pub b : Bundle
  pub sheet_is : read_sheet sheet ≡ value s
  pub bundle_is : read_bundle s bundle ≡ value b
  pub form : Written s b

-- the bytes that a call of zeldrupa_least wrote for a sheet
pub record Wrote (sheet out : List ℕ) : Type 0 where
  pub bytes : Bytes sheet
  pub work : List ℕ
  pub work' : List ℕ
  pub lent : List ℕ
  pub lent' : List ℕ
  pub long : ℕ
  pub call : GivesLeast sheet work work' lent lent' long 0
  pub front : take long lent' ≡ out

-- a call of zeldrupa_least for a sheet that was read as s, with an area that was long enough, returned r and set the place to p
pub record Asked (sheet : List ℕ) (s : Sheet) (p r : ℕ) : Type 0 where
  pub bytes : Bytes sheet
  pub work : List ℕ
  pub work' : List ℕ
  pub lent : List ℕ
  pub lent' : List ℕ
  pub enough : fixed ≤ length work
  pub call : GivesLeast sheet work work' lent lent' p r
  pub read : read_sheet sheet ≡ value s

pub record LeastTimes : Type 0 where
  -- what is written is accepted, in the written form, and no accepted bundle in that form comes before it by C-12's order
  pub accepted : (sheet out : List ℕ) → Wrote sheet out → (area area' : List ℕ) (q r : ℕ) → fixed ≤ length area → GivesCheck sheet out area area' q r → r ≡ 0
  pub in_form : (sheet out : List ℕ) → Wrote sheet out → InForm sheet out
  pub best : (sheet out : List ℕ) → Wrote sheet out → (other : List ℕ) → Bytes other → Accepted sheet other → InForm sheet other → Before sheet other out → ⊥
  -- "On a sheet without `55` no accepted bundle without releases claims less, in any form"
  pub least : (sheet out : List ℕ) → Wrote sheet out → (other : List ℕ) → Accepted sheet other →
      (s : Sheet) (b c : Bundle) → read_sheet sheet ≡ value s → s.unpacking ≡ 0 → read_bundle s out ≡ value b → read_bundle s other ≡ value c → NoRelease c → b.claim ≤ c.claim
  -- "11 is given exactly if no bundle without releases is accepted; the task as place is the last one", of a sheet that is not refused by 38
  pub exactly_11 : (sheet : List ℕ) (s : Sheet) (p r : ℕ) → Asked sheet s p r → task_count s ≤ most → s.cube ≡ false
      → (r ≡ 11) ↔ ((other : List ℕ) (c : Bundle) → Accepted sheet other → read_bundle s other ≡ value c → NoRelease c → ⊥)
  pub at_11 : (sheet : List ℕ) (s : Sheet) (p r : ℕ) → Asked sheet s p r → task_count s ≤ most → s.cube ≡ false → r ≡ 11 → p ≡ task_count s - 1
  -- "38 for a seventh task or a sheet with `48`, place the task count"
  pub many : (sheet : List ℕ) (s : Sheet) (p r : ℕ) → Asked sheet s p r → (most < task_count s) ⊎ (s.cube ≡ true) → (r ≡ 38) × (p ≡ task_count s)
