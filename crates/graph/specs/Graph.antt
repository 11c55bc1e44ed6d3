-- Circles (refusal 10) and levels, as they are computed. `Paths` says the same in plain words, and proofs/Plain.antt that they agree.
use Rattle.std.specs.Prelude.{ℕ, zero, suc, ◌+◌, Bool, false, List, eqb}
use Rattle.std.proofs.Math.Option.{Option}
use Rattle.folds.specs.Folds.{pick, both, either, any, first, greatest}
use Rattle.folds.specs.Answers.{Answer, value, unless, and_then}
use Rattle.sheet.specs.Sheet.{Sheet, task_count, link_count, work_of, source_of, target_of, cost_of}
use Rattle.sheet.specs.Format.{read_form}

-- link l leads from a to b, or to a task that does so by `on`
unfoldable pub reaches_by : Sheet → (ℕ → Bool) → ℕ → ℕ → ℕ → Bool
reaches_by s on a b l = both (eqb (source_of s l) a) (either (eqb (target_of s l) b) (on (target_of s l)))

-- a path of at least one and at most n links leads from a to b
unfoldable pub reaches : ℕ → Sheet → ℕ → ℕ → Bool
reaches zero s a b = false
reaches (suc n) s a b = any (link_count s) (reaches_by s (λ c. reaches n s c b) a b)

unfoldable pub on_circle : Sheet → ℕ → Bool
on_circle s t = reaches (task_count s) s t t

-- 10: "tasks in a circle", at the "lowest task on one"
unfoldable pub circle : Sheet → Option ℕ
circle s = first (task_count s) (on_circle s)

-- what link l adds to the level of t, where the levels of other tasks are `of`
unfoldable pub level_by : Sheet → (ℕ → ℕ) → ℕ → ℕ → ℕ
level_by s of t l = pick (eqb (source_of s l) t) (cost_of s l + of (target_of s l)) 0

-- the greatest sum of work and cost on a path from t of at most n tasks
unfoldable pub level_within : ℕ → Sheet → ℕ → ℕ
level_within zero s t = 0
level_within (suc n) s t = work_of s t + greatest (link_count s) (level_by s (level_within n s) t)

-- "the greatest sum of work and link costs on a path from it to a task without successors, its own work included"
unfoldable pub level : Sheet → ℕ → ℕ
level s t = level_within (task_count s) s t

-- what reading bytes as a sheet gives: 1 to 10, or the sheet
unfoldable pub read_sheet : List ℕ → Answer Sheet
read_sheet b = and_then (read_form b) (λ s. unless 10 (circle s) (value s))
