-- What is kept beside the schedule, in the words of specs/Layout.
use Rattle.std.specs.Prelude.{ℕ, ◌+◌, ◌*◌, ◌≤◌, ◌<◌, Bool, true, not, ◌≡◌, List, length, get_or, eqb}
use Rattle.folds.specs.Folds.{pick, bit, both, sum, greatest}
use Rattle.sheet.specs.Sheet.{Sheet, task_count, link_count, source_of, target_of, bytes_of}
use Rattle.sheet.specs.Tables.{sheet_in, Loaded, Ranged}
use Rattle.planner.specs.Schedule.{Schedule, place_of, placed, stands}
use Rattle.planner.specs.Placing.{reach_by, end_of, store_on, is_open}
use Rattle.schedule.specs.Layout.{schedule_in}
use Rattle.adjacency.specs.Chains.{Chained}
use Rattle.adjacency.specs.declared.End.TheVariants.{Source, Target}
use Rattle.arrivals.specs.Layout.{bytes_from, seen_from, arrivals_from, senders_from, ends_from, stores_from, open_from, waiting_from, turn_bytes_from, turn_links_from, packed_from, kept_length}

-- what link l gives, if it is counted (c) and of those that are asked for (q)
unfoldable pub counted_by : (ℕ → Bool) → (ℕ → ℕ) → (ℕ → Bool) → ℕ → ℕ
counted_by q x c l = pick (both (q l) (c l)) (x l) 0

-- link l leads to t
abbrev pub into : Sheet → ℕ → ℕ → Bool
into s t l = eqb (target_of s l) t

-- link l leads to t from a task on k
abbrev pub into_from : Sheet → Schedule → ℕ → ℕ → ℕ → Bool
into_from s σ t k l = both (eqb (target_of s l) t) (stands σ (source_of s l) k)

-- link l leads from a task on k to one that is not placed
abbrev pub waits : Sheet → Schedule → ℕ → ℕ → Bool
waits s σ k l = both (stands σ (source_of s l) k) (not (placed σ (target_of s l)))

abbrev pub known : Sheet → Schedule → ℕ → Bool
known s σ l = placed σ (source_of s l)

abbrev pub one_by : ℕ → ℕ
one_by l = 1

-- four counts in one word, a byte for each
unfoldable pub four_of : (ℕ → ℕ) → ℕ
four_of f = f 0 + 256 * f 1 + 65536 * f 2 + 16777216 * f 3

-- no two links join the same tasks in the same direction
pub record Single (s : Sheet) : Type 0 where
  pub once : (i j : ℕ) → i < link_count s → j < link_count s → source_of s i ≡ source_of s j → target_of s i ≡ target_of s j → i ≡ j

-- all the links into each task
pub record Gathered (s : Sheet) (w : List ℕ) : Type 0 where
  pub number : (t : ℕ) → t < task_count s → get_or w t 0 ≡ sum (link_count s) (counted_by (into s t) one_by (λ l. true))
  pub bytes : (t : ℕ) → t < task_count s → get_or w (bytes_from + t) 0 ≡ sum (link_count s) (counted_by (into s t) (bytes_of s) (λ l. true))

-- the links that are counted
pub record Counted (s : Sheet) (σ : Schedule) (c : ℕ → Bool) (w : List ℕ) : Type 0 where
  pub seen : (t : ℕ) → t < task_count s → get_or w (seen_from + t) 0 ≡ sum (link_count s) (counted_by (into s t) one_by c)
  pub arrived : (t : ℕ) → t < task_count s → get_or w (arrivals_from + t) 0 ≡ greatest (link_count s) (counted_by (into s t) (reach_by s σ) c)
  pub main : (t : ℕ) → t < task_count s → get_or w (arrivals_from + t) 0 ≡ greatest (link_count s) (counted_by (into_from s σ t (get_or w (senders_from + t) 0)) (reach_by s σ) c)
  pub pending : (k : ℕ) → k < 16 → get_or w (waiting_from + k) 0 ≡ sum (link_count s) (counted_by (waits s σ k) one_by c)
  pub packed : (t j : ℕ) → t < task_count s → j < 4 → get_or w (packed_from + (4 * t + j)) 0 ≡ four_of (λ i. sum (link_count s) (counted_by (into_from s σ t (4 * j + i)) one_by c))

-- of the task of this turn, the known links below l by the processor that they come from
pub record SurveyedTo (s : Sheet) (σ : Schedule) (t l : ℕ) (w : List ℕ) : Type 0 where
  pub bytes : (k : ℕ) → k < 16 → get_or w (turn_bytes_from + k) 0 ≡ sum l (counted_by (into_from s σ t k) (bytes_of s) (known s σ))
  pub number : (k : ℕ) → k < 16 → get_or w (turn_links_from + k) 0 ≡ sum l (counted_by (into_from s σ t k) one_by (known s σ))

-- of the task of this turn, all known links by the processor that they come from
abbrev pub Surveyed : Sheet → Schedule → ℕ → List ℕ → Type 0
Surveyed s σ t w = SurveyedTo s σ t (link_count s) w

-- the processors
pub record Ends (s : Sheet) (σ : Schedule) (w : List ℕ) : Type 0 where
  pub ends : (k : ℕ) → k < 16 → get_or w (ends_from + k) 0 ≡ end_of s σ k
  pub stores : (k : ℕ) → k < 16 → get_or w (stores_from + k) 0 ≡ store_on s σ k
  pub opens : (k : ℕ) → k < 16 → get_or w (open_from + k) 0 ≡ bit (is_open s σ k)

-- no task is placed before its predecessors
abbrev pub Closed : Sheet → Schedule → Type 0
Closed s σ = (l : ℕ) → l < link_count s → placed σ (target_of s l) ≡ true → placed σ (source_of s l) ≡ true

-- the chains in the area, the rest in the planner's own words
pub record Caches (s : Sheet) (σ : Schedule) (w own : List ℕ) : Type 0 where
  pub outward : Chained Source s w
  pub inward : Chained Target s w
  pub gathered : Gathered s own
  pub counted : Counted s σ (known s σ) own
  pub ends : Ends s σ own
  pub closed : Closed s σ

-- an area that holds a sheet and a schedule, and own words with all that is kept beside it
pub record Kept (w own : List ℕ) : Type 0 where
  pub long : length own ≡ kept_length
  pub loaded : Loaded w
  pub ranged : Ranged (sheet_in w)
  pub single : Single (sheet_in w)
  pub few_opened : (schedule_in w).opened ≤ 16
  pub standing : (u : ℕ) → placed (schedule_in w) u ≡ true → place_of (schedule_in w) u < (schedule_in w).opened
  pub caches : Caches (sheet_in w) (schedule_in w) w own

-- an area that holds a sheet and a schedule, and own words with the counts of the links into task t, of all and of those that are known
pub record Arrived (w own : List ℕ) (t : ℕ) : Type 0 where
  pub long : kept_length ≤ length own
  pub loaded : Loaded w
  pub ranged : Ranged (sheet_in w)
  pub task : t < task_count (sheet_in w)
  pub number : get_or own t 0 ≡ sum (link_count (sheet_in w)) (counted_by (into (sheet_in w) t) one_by (λ l. true))
  pub seen : get_or own (seen_from + t) 0 ≡ sum (link_count (sheet_in w)) (counted_by (into (sheet_in w) t) one_by (known (sheet_in w) (schedule_in w)))
  pub arrived : get_or own (arrivals_from + t) 0 ≡ greatest (link_count (sheet_in w)) (counted_by (into (sheet_in w) t) (reach_by (sheet_in w) (schedule_in w)) (known (sheet_in w) (schedule_in w)))
