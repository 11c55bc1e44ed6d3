-- What refuses a task and a link by their numbers alone: 5, 6, 7, 8.
use Rattle.std.specs.Prelude.{ℕ, true, [], ◌∷◌, leb, eqb}
use Rattle.std.proofs.Math.Option.{Option}
use Rattle.folds.specs.Folds.{either, first_of}
use Rattle.sheet.specs.Sheet.{Sheet, task_count, link_count}
use Rattle.sheet.specs.Format.{Progress, joins}

-- a sheet behind its board command
abbrev pub begun : Sheet → Progress
begun s = record { begun = true; sheet = s }

unfoldable pub task_fault : ℕ → ℕ → Option ℕ
task_fault n work = first_of ((leb 256 n, 5) ∷ (eqb work 0, 6) ∷ [])

unfoldable pub link_fault : Sheet → ℕ → ℕ → Option ℕ
link_fault s a b =
    first_of ((leb 1024 (link_count s), 5) ∷ (either (leb (task_count s) a) (leb (task_count s) b), 7) ∷ (joins s a b, 8) ∷ [])
