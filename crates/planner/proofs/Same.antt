-- "Sheets without `55` keep their plans": where unpacking takes no time every definition gives what it gave before C-14. Those compared are the ones before C-20,
-- which keeps the plans of sheets without `48` (proofs/Flat).
use Prim.Native.Nat.{ℕ, zero, suc, ◌+◌, ◌<◌, max}
use native.Mathlib.Omega.{arith}
use mathlib.Core.Bool.{Bool, true, false, not}
use mathlib.Core.Option.{Option, none, some}
use mathlib.Core.Path.{◌≡◌, refl, ap, ◌∙◌}
use lib.Dec.{ltb}
use Rattle.folds.specs.Folds.{pick, both, greatest, first, leading, least, prefer}
use Rattle.folds.specs.Answers.{Answer, value, refused, and_then}
use Rattle.folds.proofs.Laws.{greatest-cong, first_cong}
use Rattle.sheet.specs.Sheet.{Sheet, task_count, link_count, source_of, cost_of}
use Rattle.graph.specs.Graph.{level}
use Rattle.graph.proofs.Proper.{Proper}
use Rattle.planner.specs.Schedule.{Schedule, empty, finish_of, stands}
use Rattle.planner.specs.Placing.{comes, ready, reach_by, arrival, priority, ready_arrival, ready_priority, ahead_by, first_ready, first_partly_ready, end_of, elsewhere, near_by, fits, holds_predecessor, barred}
use Rattle.planner.specs.Planner.{planned_by, planned}
use Rattle.planner.specs.Flat.{start_by_flat, start_from_flat, start_on_flat, start_with_flat, start_at_flat, best_start_flat, ends_with_flat, delays_flat, barred_for_flat, barred_flat, opens_flat, another_flat, may_join_flat, join_flat, may_take_flat, idle_flat, may_share_flat, share_flat, last_resort_flat, place_on_flat, choice_flat, place_task_flat, turns_flat, planned_by_flat, planned_flat}
use Rattle.planner.specs.Before.{first_ready_then, start_then, ends_with_then, delays_then, barred_for_then, barred_then, may_join_then, join_then, may_take_then, idle_then, may_share_then, share_then, last_resort_then, choice_then, place_on_then, place_task_then, turns_then, planned_by_then, planned_then}
use Rattle.planner.proofs.Unpacking.{unpacked-none, arrival-none}
use Rattle.planner.proofs.Choosing.{leading-cong, least-cong}
use Rattle.planner.proofs.Flat.{flat-steps, flat-plans}

greatest-max : (n : ℕ) (f g : ℕ → ℕ) → max (greatest n f) (greatest n g) ≡ greatest n (λ i. max (f i) (g i))
unfolding greatest
greatest-max zero f g = omega arith
greatest-max (suc n) f g = omega (arith, greatest-max n f g)

module _ (s : Sheet) (none-takes : s.unpacking ≡ 0) (σ : Schedule) where
  -- receives that take no time end when the last message is there
  start-same : (t k : ℕ) → start_on_flat s σ t k ≡ start_then s σ t k
  unfolding start_on_flat start_then start_from_flat start_by_flat elsewhere near_by
  start-same t k =
      let z =
      greatest-max (link_count s) (λ l. pick (elsewhere s σ t k l) (reach_by s σ l) 0) (near_by s σ t k) ∙
      greatest-cong (link_count s) (λ l. max (pick (elsewhere s σ t k l) (reach_by s σ l) 0) (near_by s σ t k l)) (start_by_flat s σ t k) (λ l h. by l (comes s σ t l) (stands σ (source_of s l) k))
      in
      omega (arith, unpacked-none s (elsewhere s σ t k) (reach_by s σ) (end_of s σ k) none-takes (link_count s), z)
    where
      by : (l : ℕ) (u v : Bool) → max (pick (both u (not v)) (reach_by s σ l) 0) (pick (both u v) (finish_of σ (source_of s l)) 0) ≡ pick u (finish_of σ (source_of s l) + pick v 0 (cost_of s l)) 0
      by l true true = omega arith
      by l true false = omega arith
      by l false v = omega arith

  arrival-same : (t : ℕ) → ready_arrival s σ t ≡ arrival s σ t
  arrival-same t = arrival-none s σ t none-takes

  priority-same : (t : ℕ) → ready_priority s σ t ≡ priority s σ t
  unfolding ready_priority priority
  priority-same t = ap (λ (n : ℕ). n + level s t) (arrival-same t)

  first-same : first_ready s σ ≡ first_ready_then s σ
  unfolding first_ready first_ready_then ahead_by
  first-same =
      leading-cong (task_count s) (ready s σ) (ready s σ) (ahead_by s (ready_priority s σ)) (ahead_by s (priority s σ)) (λ i l. refl) (λ a b. rw (priority-same a, priority-same b))

  -- the guard
  best-same : (e f : ℕ → ℕ) (u : ℕ) → ((k : ℕ) → e k ≡ f k) → best_start_flat s σ e u ≡ best_start_flat s σ f u
  unfolding best_start_flat start_with_flat
  best-same e f u h =
      ap (start_at_flat s σ e u) (least-cong σ.opened (holds_predecessor s σ u) (holds_predecessor s σ u) (start_with_flat s σ e u) (start_with_flat s σ f u) (λ i l. refl) with-same) ∙
      at_same (least σ.opened (holds_predecessor s σ u) (start_with_flat s σ f u))
    where
      with-same : (k : ℕ) → start_with_flat s σ e u k ≡ start_with_flat s σ f u k
      with-same k = ap (start_from_flat s σ u k) (h k)

      at_same : (o : Option ℕ) → start_at_flat s σ e u o ≡ start_at_flat s σ f u o
      at_same none = refl
      at_same (some k) = with-same k

  ends_same : (t k j : ℕ) → ends_with_flat s σ t k j ≡ ends_with_then s σ t k j
  unfolding ends_with_flat ends_with_then
  ends_same t k j = rw (start-same t k)

  delays-same : (t u k : ℕ) → delays_flat s σ t u k ≡ delays_then s σ t u k
  unfolding delays_flat delays_then
  delays-same t u k = rw (best-same (ends_with_flat s σ t k) (ends_with_then s σ t k) u (ends_same t k))

  barred-same : (t k : ℕ) → barred_flat s σ t k ≡ barred_then s σ t k
  unfolding barred_flat barred_then
  barred-same t k = by (first_partly_ready s σ)
    where
      by : (o : Option ℕ) → barred_for_flat s σ t k o ≡ barred_for_then s σ t k o
      by none = refl
      by (some u) = rw (priority-same t, delays-same t u k)

  -- the steps
  join-same : (t : ℕ) → join_flat s (barred_flat s) σ t ≡ join_then s (barred_then s) σ t
  unfolding join_flat may_join_flat join_then may_join_then
  join-same t =
      least-cong σ.opened (may_join_flat s (barred_flat s) σ t) (may_join_then s (barred_then s) σ t) (start_on_flat s σ t) (start_then s σ t)
      (λ k l. rw (barred-same t k, start-same t k, arrival-same t)) (start-same t)

  idle-same : (t : ℕ) → idle_flat s (barred_flat s) σ t ≡ idle_then s (barred_then s) σ t
  unfolding idle_flat may_take_flat idle_then may_take_then
  idle-same t =
      leading-cong σ.opened (may_take_flat s (barred_flat s) σ t) (may_take_then s (barred_then s) σ t) (λ a b. ltb (end_of s σ b) (end_of s σ a)) (λ a b. ltb (end_of s σ b) (end_of s σ a))
      (λ k l. rw (arrival-same t)) (λ i j. refl)

  share-same : (t : ℕ) → share_flat s (barred_flat s) σ t ≡ share_then s (barred_then s) σ t
  unfolding share_flat may_share_flat share_then may_share_then opens_flat
  share-same t =
      ap (λ (o : Option ℕ). pick (opens_flat s σ t) o none)
      (first_cong σ.opened (may_share_flat s (barred_flat s) σ t) (may_share_then s (barred_then s) σ t) (λ k l. rw (barred-same t k, start-same t k, arrival-same t)))

  last-same : (t : ℕ) → last_resort_flat s (barred_flat s) σ t ≡ last_resort_then s (barred_then s) σ t
  unfolding last_resort_flat last_resort_then
  last-same t = least-cong σ.opened (fits s σ t) (fits s σ t) (start_on_flat s σ t) (start_then s σ t) (λ k l. refl) (start-same t)

  choice-same : (amended : Bool) (t : ℕ) → choice_flat s (barred_flat s) amended σ t ≡ choice_then s (barred_then s) amended σ t
  unfolding choice_flat choice_then
  choice-same amended t = rw (join-same t, idle-same t, share-same t, last-same t)

  place_same : (amended : Bool) (o : Option ℕ) → place_task_flat s (barred_flat s) amended σ o ≡ place_task_then s (barred_then s) amended σ o
  place_same amended none = refl
  place_same amended (some t) = rw (choice-same amended t) (on (choice_then s (barred_then s) amended σ t))
    where
      on : (c : Option ℕ) → place_on_flat s (barred_flat s) σ t c ≡ place_on_then s (barred_then s) σ t c
      on none = refl
      on (some k) = rw (start-same t k)

-- turn by turn
module _ (s : Sheet) (none-takes : s.unpacking ≡ 0) where
  turns_same : (amended : Bool) (n : ℕ) (σ : Schedule) → turns_flat s (barred_flat s) amended n σ ≡ turns_then s (barred_then s) amended n σ
  unfolding turns_flat turns_then
  turns_same amended zero σ = refl
  turns_same amended (suc n) σ =
      rw (first-same s none-takes σ, place_same s none-takes σ amended (first_ready_then s σ)) (on (place_task_then s (barred_then s) amended σ (first_ready_then s σ)) (turns_same amended n))
    where
      on : (a : Answer Schedule) → ((τ : Schedule) → turns_flat s (barred_flat s) amended n τ ≡ turns_then s (barred_then s) amended n τ)
          → and_then a (turns_flat s (barred_flat s) amended n) ≡ and_then a (turns_then s (barred_then s) amended n)
      on (value τ) ih = ih τ
      on (refused m at) ih = refl

  module _ (proper : Proper s) (flat : s.cube ≡ false) where
    -- with C-17 and without
    pub steps-kept : (amended : Bool) → planned_by s (barred s) amended ≡ planned_by_then s (barred_then s) amended
    unfolding planned_by_flat planned_by_then
    steps-kept amended = flat-steps s proper flat amended ∙ turns_same amended (task_count s) (empty s)

    pub plans-kept : planned s ≡ planned_then s
    unfolding planned planned_then
    plans-kept = steps-kept true
