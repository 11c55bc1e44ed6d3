-- What the words of the schedule say, and that words written elsewhere leave it as it was.
use Prim.Native.Nat.{ℕ, ◌+◌, ◌-◌, ◌/◌, ◌%◌, ◌≤◌, ◌<◌}
use mathlib.Core.Path.{◌≡◌, ap, ap₂, sym, ◌∙◌}
use mathlib.Core.List.{List}
use native.Mathlib.Omega.{arith}
use lib.ListN.{length, get_or}
use Rattle.workspace.specs.Area.{finishes_at, levels_at, opened_at, placed_at, places_at, schedule_end}
use Rattle.folds.specs.Folds.{listed}
use Rattle.folds.proofs.Lists.{length-listed, get_or-listed, listed-cong}
use Rattle.sheet.specs.Sheet.{Sheet, task_count, link_count}
use Rattle.sheet.specs.Tables.{sheet_in}
use Rattle.sheet.proofs.Rows.{tasks-in}
use Rattle.adjacency.proofs.Walks.{chained-frame}
use Rattle.planner.specs.Schedule.{nowhere, place_of, start_of, finish_of}
use Rattle.levelling.specs.Found.{Levelled}
use Rattle.schedule.specs.Layout.{on_in, turn_in, finish_in, start_in, schedule_in}

module _ (w : List ℕ) where
  pub place-in : (t : ℕ) → t < task_count (sheet_in w) → place_of (schedule_in w) t ≡ on_in w t
  unfolding schedule_in place_of
  place-in t h = get_or-listed _ (λ (i : ℕ). on_in w i) t nowhere (rw (tasks-in w) at h)

  pub start-in : (t : ℕ) → t < task_count (sheet_in w) → start_of (schedule_in w) t ≡ start_in w t
  unfolding schedule_in start_of
  start-in t h = get_or-listed _ (λ (i : ℕ). start_in w i) t 0 (rw (tasks-in w) at h)

  pub finish-in : (t : ℕ) → t < task_count (sheet_in w) → finish_of (schedule_in w) t ≡ finish_in w t
  unfolding schedule_in finish_of
  finish-in t h = get_or-listed _ (λ (i : ℕ). finish_in w i) t 0 (rw (tasks-in w) at h)

  pub order_long : length (schedule_in w).order ≡ get_or w placed_at 0
  unfolding schedule_in
  order_long = length-listed _ _

  pub order-in : (i : ℕ) → i < length (schedule_in w).order → get_or (schedule_in w).order i 0 ≡ turn_in w i
  unfolding schedule_in
  order-in i h = get_or-listed _ (λ (j : ℕ). turn_in w j) i 0 (rw (length-listed (get_or w placed_at 0) (λ (j : ℕ). turn_in w j)) at h)

  pub on_long : length (schedule_in w).on ≡ task_count (sheet_in w)
  unfolding schedule_in
  on_long = length-listed _ _ ∙ sym (tasks-in w)

  pub finish_long : length (schedule_in w).finish ≡ task_count (sheet_in w)
  unfolding schedule_in
  finish_long = length-listed _ _ ∙ sym (tasks-in w)

-- the counts, the works and the words from `places_at` on are all the schedule
module _ (w w' : List ℕ) (few_tasks : get_or w 0 0 ≤ 256) (few_placed : get_or w placed_at 0 ≤ 256) (low : (i : ℕ) → i < 272 → get_or w' i 0 ≡ get_or w i 0)
    (same : (i : ℕ) → places_at ≤ i → i < schedule_end → get_or w' i 0 ≡ get_or w i 0) where
  table : (f f' : ℕ → ℕ) (n n' : ℕ) → n' ≡ n → n ≤ 256 → ((i : ℕ) → i < 256 → f' i ≡ f i) → listed n' f' ≡ listed n f
  table f f' n n' e h each = ap (λ (k : ℕ). listed k f') e ∙ listed-cong n f' f (λ i l. each i (omega arith))

  pub schedule-frame : schedule_in w' ≡ schedule_in w
  unfolding schedule_in
  schedule-frame =
      let tasks = low 0 (omega arith) in
      let finished : (i : ℕ) → i < 256 → finish_in w' i ≡ finish_in w i = λ i l. same (finishes_at + i) (omega arith) (omega arith) in
      let on = table (λ t. on_in w t) (λ t. on_in w' t) (get_or w 0 0) (get_or w' 0 0) tasks few_tasks (λ i l. ap (λ (x : ℕ). x % 65536) (same (places_at + i) (omega arith) (omega arith))) in
      let start = table (λ t. start_in w t) (λ t. start_in w' t) (get_or w 0 0) (get_or w' 0 0) tasks few_tasks (λ i l. ap₂ (λ (x y : ℕ). x - y % 65536) (finished i l) (low (16 + i) (omega arith))) in
      let finish = table (λ t. finish_in w t) (λ t. finish_in w' t) (get_or w 0 0) (get_or w' 0 0) tasks few_tasks finished in
      let order = table (λ i. turn_in w i) (λ i. turn_in w' i) (get_or w placed_at 0) (get_or w' placed_at 0) (same placed_at (omega arith) (omega arith)) few_placed (λ i l. ap (λ (x : ℕ). x / 65536) (same (places_at + i) (omega arith) (omega arith))) in
      λ x. record { on = on x; start = start x; finish = finish x; order = order x; opened = same opened_at (omega arith) (omega arith) x }

pub levelled-frame : {s : Sheet} {w w' : List ℕ} → task_count s ≤ 256 → link_count s ≤ 1024 → ((i : ℕ) → i < places_at → get_or w' i 0 ≡ get_or w i 0) → Levelled s w → Levelled s w'
levelled-frame few links same d = record { inward = chained-frame few links (λ i h k. same i (omega arith)) d.inward; levels = λ t h. same (levels_at + t) (omega arith) ∙ d.levels t h }
