-- The planner before C-20 of document 02: every message takes its cost, and step 3 opens the next processor.
use Rattle.std.specs.Prelude.{ℕ, zero, suc, ◌+◌, max, Bool, true, false, not, ltb, leb, eqb}
use Rattle.std.proofs.Math.Option.{Option, none, some}
use Rattle.folds.specs.Folds.{pick, both, greatest, first, leading, least, or_else}
use Rattle.folds.specs.Answers.{Answer, value, refused, and_then}
use Rattle.sheet.specs.Sheet.{Sheet, task_count, link_count, work_of, source_of, cost_of}
use Rattle.planner.specs.Schedule.{Schedule, empty, finish_of, stands, put}
use Rattle.planner.specs.Placing.{comes, reach_by, arrival, priority, unpacked, ready_arrival, ready_priority, first_ready, first_partly_ready, end_of, elsewhere, near_by, fits, holds_predecessor, spent}

module _ (s : Sheet) where
  -- "finish + (0 if on k, else cost)"
  unfoldable pub start_by_flat : Schedule → ℕ → ℕ → ℕ → ℕ
  start_by_flat σ t k l = pick (comes s σ t l) (finish_of σ (source_of s l) + pick (stands σ (source_of s l) k) 0 (cost_of s l)) 0

  unfoldable pub start_from_flat : Schedule → ℕ → ℕ → ℕ → ℕ
  start_from_flat σ t k e = max e (greatest (link_count s) (start_by_flat σ t k))

  unfoldable pub start_on_flat : Schedule → ℕ → ℕ → ℕ
  start_on_flat σ t k = max (unpacked s (elsewhere s σ t k) (reach_by s σ) (end_of s σ k) (link_count s)) (greatest (link_count s) (near_by s σ t k))

  unfoldable pub start_with_flat : Schedule → (ℕ → ℕ) → ℕ → ℕ → ℕ
  start_with_flat σ ends u k = start_from_flat σ u k (ends k)

  abbrev pub start_at_flat : Schedule → (ℕ → ℕ) → ℕ → Option ℕ → ℕ
  start_at_flat σ ends u none = 0
  start_at_flat σ ends u (some k) = start_with_flat σ ends u k

  unfoldable pub best_start_flat : Schedule → (ℕ → ℕ) → ℕ → ℕ
  best_start_flat σ ends u = start_at_flat σ ends u (least σ.opened (holds_predecessor s σ u) (start_with_flat σ ends u))

  unfoldable pub ends_with_flat : Schedule → ℕ → ℕ → ℕ → ℕ
  ends_with_flat σ t k j = pick (eqb j k) (start_on_flat σ t k + work_of s t) (end_of s σ j)

  unfoldable pub delays_flat : Schedule → ℕ → ℕ → ℕ → Bool
  delays_flat σ t u k =
      both (ltb (best_start_flat σ (end_of s σ) u) (arrival s σ u)) (ltb (best_start_flat σ (end_of s σ) u) (best_start_flat σ (ends_with_flat σ t k) u))

  abbrev pub barred_for_flat : Schedule → ℕ → ℕ → Option ℕ → Bool
  barred_for_flat σ t k none = false
  barred_for_flat σ t k (some u) = both (ltb (ready_priority s σ t) (priority s σ u)) (delays_flat σ t u k)

  unfoldable pub barred_flat : Schedule → ℕ → ℕ → Bool
  barred_flat σ t k = barred_for_flat σ t k (first_partly_ready s σ)

  -- "Open the next processor, if one is left and t fits it alone"
  unfoldable pub opens_flat : Schedule → ℕ → Bool
  opens_flat σ t = both (ltb σ.opened s.processors) (fits s σ t σ.opened)

  unfoldable pub another_flat : Schedule → ℕ → Option ℕ
  another_flat σ t = pick (opens_flat σ t) (some σ.opened) none

module _ (s : Sheet) (guard : Schedule → ℕ → ℕ → Bool) where
  unfoldable pub may_join_flat : Schedule → ℕ → ℕ → Bool
  may_join_flat σ t k =
      both (both (holds_predecessor s σ t k) (fits s σ t k)) (both (not (guard σ t k)) (ltb (start_on_flat s σ t k) (ready_arrival s σ t)))

  unfoldable pub join_flat : Schedule → ℕ → Option ℕ
  join_flat σ t = least σ.opened (may_join_flat σ t) (start_on_flat s σ t)

  unfoldable pub may_take_flat : Schedule → ℕ → ℕ → Bool
  may_take_flat σ t k = both (fits s σ t k) (both (leb (end_of s σ k) (ready_arrival s σ t)) (spent s σ t k))

  unfoldable pub idle_flat : Schedule → ℕ → Option ℕ
  idle_flat σ t = leading σ.opened (may_take_flat σ t) (λ a b. ltb (end_of s σ b) (end_of s σ a))

  unfoldable pub may_share_flat : Schedule → ℕ → ℕ → Bool
  may_share_flat σ t k = both (fits s σ t k) (both (not (guard σ t k)) (leb (start_on_flat s σ t k) (ready_arrival s σ t)))

  unfoldable pub share_flat : Schedule → ℕ → Option ℕ
  share_flat σ t = pick (opens_flat s σ t) (first σ.opened (may_share_flat σ t)) none

  unfoldable pub last_resort_flat : Schedule → ℕ → Option ℕ
  last_resort_flat σ t = least σ.opened (fits s σ t) (start_on_flat s σ t)

  abbrev pub place_on_flat : Schedule → ℕ → Option ℕ → Answer Schedule
  place_on_flat σ t none = refused 11 t
  place_on_flat σ t (some k) = value (put σ t k (start_on_flat s σ t k) (start_on_flat s σ t k + work_of s t))

  module _ (amended : Bool) where
    unfoldable pub choice_flat : Schedule → ℕ → Option ℕ
    choice_flat σ t =
        or_else (join_flat σ t) (or_else (idle_flat σ t) (or_else (pick amended (share_flat σ t) none) (or_else (another_flat s σ t) (last_resort_flat σ t))))

    abbrev pub place_task_flat : Schedule → Option ℕ → Answer Schedule
    place_task_flat σ none = value σ
    place_task_flat σ (some t) = place_on_flat σ t (choice_flat σ t)

    unfoldable pub turns_flat : ℕ → Schedule → Answer Schedule
    turns_flat zero σ = value σ
    turns_flat (suc n) σ = and_then (place_task_flat σ (first_ready s σ)) (turns_flat n)

    unfoldable pub planned_by_flat : Answer Schedule
    planned_by_flat = turns_flat (task_count s) (empty s)

unfoldable pub planned_flat : Sheet → Answer Schedule
planned_flat s = planned_by_flat s (barred_flat s) true
