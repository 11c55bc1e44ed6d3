-- The planner before C-14 of document 02, by the words of document 01 and of C-17: where receives take no time.
use Rattle.std.specs.Prelude.{ℕ, zero, suc, ◌+◌, Bool, true, false, not, ltb, leb, eqb}
use Rattle.std.proofs.Math.Option.{Option, none, some}
use Rattle.folds.specs.Folds.{pick, both, first, leading, least, or_else}
use Rattle.folds.specs.Answers.{Answer, value, refused, and_then}
use Rattle.sheet.specs.Sheet.{Sheet, task_count, work_of}
use Rattle.planner.specs.Schedule.{Schedule, empty, put}
use Rattle.planner.specs.Placing.{ready, arrival, priority, ahead_by, first_partly_ready, end_of, fits, holds_predecessor, spent}
use Rattle.planner.specs.Flat.{start_from_flat, best_start_flat, opens_flat, another_flat}

module _ (s : Sheet) where
  unfoldable pub first_ready_then : Schedule → Option ℕ
  first_ready_then σ = leading (task_count s) (ready s σ) (ahead_by s (priority s σ))

  -- "the greatest of k's end time and, over its predecessors, finish + (0 if on k, else cost)"
  unfoldable pub start_then : Schedule → ℕ → ℕ → ℕ
  start_then σ t k = start_from_flat s σ t k (end_of s σ k)

  unfoldable pub ends_with_then : Schedule → ℕ → ℕ → ℕ → ℕ
  ends_with_then σ t k j = pick (eqb j k) (start_then σ t k + work_of s t) (end_of s σ j)

  unfoldable pub delays_then : Schedule → ℕ → ℕ → ℕ → Bool
  delays_then σ t u k =
      both (ltb (best_start_flat s σ (end_of s σ) u) (arrival s σ u)) (ltb (best_start_flat s σ (end_of s σ) u) (best_start_flat s σ (ends_with_then σ t k) u))

  abbrev pub barred_for_then : Schedule → ℕ → ℕ → Option ℕ → Bool
  barred_for_then σ t k none = false
  barred_for_then σ t k (some u) = both (ltb (priority s σ t) (priority s σ u)) (delays_then σ t u k)

  unfoldable pub barred_then : Schedule → ℕ → ℕ → Bool
  barred_then σ t k = barred_for_then σ t k (first_partly_ready s σ)

module _ (s : Sheet) (guard : Schedule → ℕ → ℕ → Bool) where
  unfoldable pub may_join_then : Schedule → ℕ → ℕ → Bool
  may_join_then σ t k =
      both (both (holds_predecessor s σ t k) (fits s σ t k)) (both (not (guard σ t k)) (ltb (start_then s σ t k) (arrival s σ t)))

  unfoldable pub join_then : Schedule → ℕ → Option ℕ
  join_then σ t = least σ.opened (may_join_then σ t) (start_then s σ t)

  unfoldable pub may_take_then : Schedule → ℕ → ℕ → Bool
  may_take_then σ t k = both (fits s σ t k) (both (leb (end_of s σ k) (arrival s σ t)) (spent s σ t k))

  unfoldable pub idle_then : Schedule → ℕ → Option ℕ
  idle_then σ t = leading σ.opened (may_take_then σ t) (λ a b. ltb (end_of s σ b) (end_of s σ a))

  unfoldable pub may_share_then : Schedule → ℕ → ℕ → Bool
  may_share_then σ t k = both (fits s σ t k) (both (not (guard σ t k)) (leb (start_then s σ t k) (arrival s σ t)))

  unfoldable pub share_then : Schedule → ℕ → Option ℕ
  share_then σ t = pick (opens_flat s σ t) (first σ.opened (may_share_then σ t)) none

  unfoldable pub last_resort_then : Schedule → ℕ → Option ℕ
  last_resort_then σ t = least σ.opened (fits s σ t) (start_then s σ t)

  abbrev pub place_on_then : Schedule → ℕ → Option ℕ → Answer Schedule
  place_on_then σ t none = refused 11 t
  place_on_then σ t (some k) = value (put σ t k (start_then s σ t k) (start_then s σ t k + work_of s t))

  module _ (amended : Bool) where
    unfoldable pub choice_then : Schedule → ℕ → Option ℕ
    choice_then σ t =
        or_else (join_then σ t) (or_else (idle_then σ t) (or_else (pick amended (share_then σ t) none) (or_else (another_flat s σ t) (last_resort_then σ t))))

    abbrev pub place_task_then : Schedule → Option ℕ → Answer Schedule
    place_task_then σ none = value σ
    place_task_then σ (some t) = place_on_then σ t (choice_then σ t)

    unfoldable pub turns_then : ℕ → Schedule → Answer Schedule
    turns_then zero σ = value σ
    turns_then (suc n) σ = and_then (place_task_then σ (first_ready_then s σ)) (turns_then n)

    unfoldable pub planned_by_then : Answer Schedule
    planned_by_then = turns_then (task_count s) (empty s)

unfoldable pub planned_then : Sheet → Answer Schedule
planned_then s = planned_by_then s (barred_then s) true
