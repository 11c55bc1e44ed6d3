-- Draws, a sheet and the refusals, computed.
use Rattle.std.specs.Prelude.{◌≡◌, ℕ, false, [], ◌∷◌, refl}
use Rattle.folds.specs.Folds.{listed, any}
use Rattle.folds.specs.Answers.{value, refused}
use Rattle.sheet.specs.Sheet.{Task, Link, link_count, source_of, target_of}
use Rattle.sheet.specs.Format.{joins, joins_by}
use Rattle.generator.specs.Draw.{next_of, after, drawn, start_of}
use Rattle.generator.specs.Load.{task_behind, try_behind, task_at, try_at, is_new, tried, tasks_from, sheet_from, outside, generated}

first-draws : drawn 1 (start_of 1) ∷ drawn 2 (start_of 1) ∷ drawn 3 (start_of 1) ∷ [] ≡ 632806 ∷ 68359563 ∷ 2648522772 ∷ []
unfolding drawn after next_of
first-draws = refl

abbrev task : ℕ → ℕ → Task
task work store = record { work = work; store = store }

abbrev link : ℕ → ℕ → ℕ → ℕ → Link
link source target cost bytes = record { source = source; target = target; cost = cost; bytes = bytes }

-- six tries: 2 to 2 twice, 2 to 1, then 1 to 2, which is written, 1 to 2 again, and 0 to 2
six-tries : listed 6 (try_at 3 3) ≡ link 2 2 38 1 ∷ link 2 2 40 0 ∷ link 2 1 26 1 ∷ link 1 2 32 15 ∷ link 1 2 24 15 ∷ link 0 2 14 13 ∷ []
unfolding listed try_at try_behind drawn after next_of
six-tries = refl

their-sheet :
    generated 3 3 6 2 100
    ≡ value (record { processors = 2; limit = 100; unpacking = 0; cube = false; tasks = task 45 13 ∷ task 59 29 ∷ task 89 17 ∷ []; links = link 1 2 32 15 ∷ link 0 2 14 13 ∷ [] })
unfolding generated outside sheet_from tasks_from task_at task_behind try_at try_behind is_new tried joins joins_by link_count source_of target_of any listed drawn after next_of
their-sheet = refl

refusals :
    generated 0 3 6 2 100 ∷ generated 1 0 6 2 100 ∷ generated 1 257 6 2 100 ∷ generated 1 3 1025 2 100 ∷ generated 1 3 6 0 100 ∷ generated 1 3 6 17 100 ∷ []
    ≡ refused 6 0 ∷ refused 6 0 ∷ refused 6 0 ∷ refused 6 0 ∷ refused 6 0 ∷ refused 6 0 ∷ []
unfolding generated outside
refusals = refl
