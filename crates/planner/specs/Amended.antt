-- What C-17 of document 02 changes: "A plan changes exactly when step 3 was used in it while such a processor existed, a refusal 11 only then".
use Rattle.std.specs.Prelude.{ℕ, zero, suc, Bool, true, false, not, ◌≡◌}
use Rattle.std.proofs.Math.Option.{Option, none, some}
use Rattle.folds.specs.Folds.{both, either, first, is_some}
use Rattle.folds.specs.Answers.{Answer, value, refused}
use Rattle.sheet.specs.Sheet.{Sheet, task_count}
use Rattle.planner.specs.Schedule.{Schedule, empty}
use Rattle.planner.specs.Placing.{first_ready, barred}
use Rattle.planner.specs.Planner.{join, idle, may_share, another, turn, planned_by, planned}

module _ (s : Sheet) (guard : Schedule → ℕ → ℕ → Bool) where
  -- steps 1 and 2 give none, and step 3 opens a processor
  unfoldable pub uses_three : Schedule → ℕ → Bool
  uses_three σ t = both (not (is_some (join s guard σ t))) (both (not (is_some (idle s guard σ t))) (is_some (another s guard σ t)))

  -- .. "while such a processor existed"
  unfoldable pub opens_in_vain : Schedule → ℕ → Bool
  opens_in_vain σ t = both (uses_three σ t) (is_some (first σ.opened (may_share s guard σ t)))

  abbrev pub at_task : Schedule → Option ℕ → Bool
  at_task σ none = false
  at_task σ (some t) = opens_in_vain σ t

  abbrev pub onwards : (Schedule → Bool) → Answer Schedule → Bool
  onwards f (value τ) = f τ
  onwards f (refused n at) = false

  -- at one of n turns from σ on, by the steps without C-17
  unfoldable pub meets : ℕ → Schedule → Bool
  meets zero σ = false
  meets (suc n) σ = either (at_task σ (first_ready s σ)) (onwards (meets n) (turn s guard false σ))

-- the schedule by the steps of document 01, and whether it opens a processor in vain
unfoldable pub planned_before : Sheet → Answer Schedule
planned_before s = planned_by s (barred s) false

unfoldable pub wasteful : Sheet → Bool
wasteful s = meets s (barred s) (task_count s) (empty s)

pub record Changes (s : Sheet) : Type 0 where
  pub kept : (φ : Schedule) → planned_before s ≡ value φ → wasteful s ≡ false → planned s ≡ value φ
  pub changed : (φ : Schedule) → planned_before s ≡ value φ → wasteful s ≡ true → planned s ≡ value φ → ⊥
  pub refusal : (n at : ℕ) → planned_before s ≡ refused n at → (planned s ≡ refused n at → ⊥) → wasteful s ≡ true
