-- What bounds the times of a schedule: all works, costs and unpacking so far, one after the other.
use Rattle.std.specs.Prelude.{ℕ, ◌+◌, ◌*◌, eqb}
use Rattle.folds.specs.Folds.{pick, sum}
use Rattle.sheet.specs.Sheet.{Sheet, task_count, link_count, target_of, work_of, cost_of}
use Rattle.planner.specs.Schedule.{Schedule, placed}

module _ (s : Sheet) where
  -- what a message and its unpacking add at most: no two processors are more than four hops apart
  abbrev pub link_load : ℕ → ℕ
  link_load l = 4 * cost_of s l + s.unpacking

  -- the load of l, if it leads into t
  abbrev pub load_into : ℕ → ℕ → ℕ
  load_into t l = pick (eqb (target_of s l) t) (link_load l) 0

  -- the works of the tasks placed, and the loads of the links into them
  abbrev pub work_up_to : Schedule → ℕ → ℕ
  work_up_to σ u = pick (placed σ u) (work_of s u) 0

  abbrev pub load_up_to : Schedule → ℕ → ℕ
  load_up_to σ l = pick (placed σ (target_of s l)) (link_load l) 0

  unfoldable pub load_of : Schedule → ℕ
  load_of σ = sum (task_count s) (work_up_to σ) + sum (link_count s) (load_up_to σ)
