-- What is promised of the least time of a sheet, about all bundles and by the checker alone.
use Rattle.std.specs.Prelude.{ℕ, ◌-◌, ◌≤◌, false, ◌≡◌, List}
use Rattle.folds.specs.Answers.{value, refused}
use Rattle.sheet.specs.Sheet.{Sheet, task_count}
use Rattle.bundle.specs.Bundle.{Bundle}
use Rattle.bundle.specs.Writing.{bundle_bytes}
use Rattle.checker.specs.Checker.{check}
use Rattle.std.specs.declared.cmp.Ordering.TheVariants.{Less}
use Rattle.least.specs.Written.{Written, NoRelease}
use Rattle.least.specs.Ranking.{order}
use Rattle.least.specs.Least.{most, least_time}

-- no bundle without releases is accepted for the sheet
abbrev pub NoneAccepted : List ℕ → Type 0
NoneAccepted sheet = (bytes : List ℕ) (c : Bundle) → check sheet bytes ≡ value c → NoRelease c → ⊥

-- "a bundle whose claim is least among all accepted bundles in the planner's written form .. Among equals C-12's order picks"
pub record Found (sheet : List ℕ) (s : Sheet) (out : List ℕ) : Type 0 where
  pub bundle : Bundle
  pub accepted : check sheet out ≡ value bundle
  pub bytes : bundle_bytes bundle ≡ out
  pub form : Written s bundle
  -- no accepted bundle in that form is better
  pub best : (other : List ℕ) (c : Bundle) → check sheet other ≡ value c → Written s c → order c bundle ≡ Less → ⊥
  -- "On a sheet without `55` no accepted bundle without releases claims less, in any form"
  pub least : s.unpacking ≡ 0 → (other : List ℕ) (c : Bundle) → check sheet other ≡ value c → NoRelease c → bundle.claim ≤ c.claim

-- of the bytes of a sheet that are read as s
pub record LeastTime (sheet : List ℕ) (s : Sheet) : Type 0 where
  pub found : (out : List ℕ) → least_time s ≡ value out → Found sheet s out
  -- "11 is given exactly if no bundle without releases is accepted; the task as place is the last one"
  pub refused_11 : (p : ℕ) → least_time s ≡ refused 11 p → (p ≡ task_count s - 1) × NoneAccepted sheet
  pub only_11 : task_count s ≤ most → s.cube ≡ false → NoneAccepted sheet → least_time s ≡ refused 11 (task_count s - 1)
