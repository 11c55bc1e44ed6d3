-- What a turn answers, and what holds of the area after each.
use Rattle.std.specs.Prelude.{ℕ, ◌+◌, ◌≤◌, ◌<◌, ◌≡◌, List, length, get_or}
use Rattle.workspace.specs.Area.{finishes_at, heads_at, placed_at, places_at, schedule_end}
use Rattle.folds.specs.Answers.{Answer, value, refused}
use Rattle.sheet.specs.Sheet.{Sheet}
use Rattle.sheet.specs.Tables.{sheet_in, Loaded}
use Rattle.planner.specs.Schedule.{Schedule, latest_finish, empty, finish_of}
use Rattle.planner.specs.Loads.{load_of}
use Rattle.levelling.specs.Found.{Levelled}
use Rattle.schedule.specs.Layout.{schedule_in}
use Rattle.adjacency.specs.Chains.{Chained}
use Rattle.adjacency.specs.Frames.{Only}
use Rattle.adjacency.specs.declared.End.TheVariants.{Source, Target}
use Rattle.arrivals.specs.Kept.{Kept}
use Rattle.std.specs.Prelude.{⊤, Result, Ok, Err}
use Rattle.refusals.specs.declared.Refusal.{Refusal}

-- the schedule, or what is refused: 11 at the task that no step gives a processor
abbrev pub answer_of : Result ⊤ Refusal → Schedule → Answer Schedule
answer_of (Ok x) σ = value σ
answer_of (Err r) σ = refused r.number r.place

-- no finish is past the load of the tasks placed: their works, and the costs and unpacking of the links into them
pub record Timely (s : Sheet) (σ : Schedule) : Type 0 where
  pub early : (u : ℕ) → finish_of σ u ≤ load_of s σ

-- after j turns from the area w₀, with what is kept in own words
pub record Going (w₀ : List ℕ) (j : ℕ) (w own : List ℕ) : Type 0 where
  pub long : length w ≡ length w₀
  pub low : (i : ℕ) → i < places_at → get_or w i 0 ≡ get_or w₀ i 0
  pub sheet : sheet_in w ≡ sheet_in w₀
  pub kept : Kept w own
  pub levelled : Levelled (sheet_in w) w
  pub timely : Timely (sheet_in w) (schedule_in w)
  pub placed : get_or w placed_at 0 ≤ j

-- the tables of the schedule below t are those of the empty one
pub record Cleared (w₀ : List ℕ) (t : ℕ) (w : List ℕ) : Type 0 where
  pub only : Only places_at schedule_end w₀ w
  pub on : (u : ℕ) → u < t → get_or w (places_at + u) 0 ≡ 16
  pub finish : (u : ℕ) → u < t → get_or w (finishes_at + u) 0 ≡ 0

-- the empty schedule
pub record Emptied (w₀ w : List ℕ) : Type 0 where
  pub only : Only places_at schedule_end w₀ w
  pub schedule : schedule_in w ≡ empty (sheet_in w₀)
  pub placed : get_or w placed_at 0 ≡ 0

-- what a planned area has besides its schedule: sheet and levels as they were, the chains of links, and small numbers
pub record Afterwards (w₀ w : List ℕ) : Type 0 where
  pub long : length w ≡ length w₀
  pub low : (i : ℕ) → i < heads_at → get_or w i 0 ≡ get_or w₀ i 0
  pub loaded : Loaded w
  pub sheet : sheet_in w ≡ sheet_in w₀
  pub outward : Chained Source (sheet_in w₀) w
  pub inward : Chained Target (sheet_in w₀) w
  pub few_opened : (schedule_in w).opened ≤ 16
  pub few_placed : length (schedule_in w).order ≤ 256
  pub early : (t : ℕ) → finish_of (schedule_in w) t ≤ latest_finish
