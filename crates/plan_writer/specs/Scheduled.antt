-- An area that holds a sheet and its schedule, as planning leaves it.
use Rattle.std.specs.Prelude.{ℕ, ◌≤◌, ◌<◌, ◌≡◌, List, eqb, length, get_or}
use Rattle.folds.specs.Folds.{bit, sum}
use Rattle.sheet.specs.Sheet.{task_count}
use Rattle.sheet.specs.Tables.{sheet_in, Loaded}
use Rattle.adjacency.specs.Chains.{Chained}
use Rattle.adjacency.specs.declared.End.TheVariants.{Source, Target}
use Rattle.planner.specs.Schedule.{place_of}
use Rattle.schedule.specs.Layout.{schedule_in}

pub record Scheduled (w : List ℕ) : Type 0 where
  pub loaded : Loaded w
  pub outward : Chained Source (sheet_in w) w
  pub inward : Chained Target (sheet_in w) w
  pub few_opened : (schedule_in w).opened ≤ 16
  pub few_placed : length (schedule_in w).order ≤ 256
  pub tasks : (i : ℕ) → i < length (schedule_in w).order → get_or (schedule_in w).order i 0 < task_count (sheet_in w)
  -- each task stands on an open processor, and was placed at one turn
  pub standing : (t : ℕ) → t < task_count (sheet_in w) → place_of (schedule_in w) t < (schedule_in w).opened
  pub once : (t : ℕ) → t < task_count (sheet_in w) → sum (length (schedule_in w).order) (λ i. bit (eqb t (get_or (schedule_in w).order i 0))) ≡ 1
