-- The results of the interface's functions as values in lent memory.
use Rattle.std.specs.Prelude.{ℕ, ◌*◌, List, [], ◌∷◌, length, ltb}
use Rattle.folds.specs.Folds.{pick, listed}
use Rattle.folds.specs.Answers.{Answer, value, refused, and_then}
use Rattle.sheet.specs.Sheet.{Sheet, task_count, link_count}
use Rattle.sheet.specs.Writing.{task_values, link_values}
use Rattle.graph.specs.Graph.{level}
use Rattle.bundle.specs.Bundle.{Bundle}
use Rattle.bundle.specs.Writing.{bundle_values}
use Rattle.machine.specs.Machine.{State, processor_of}
use Rattle.machine.specs.Runs.{run_of}

-- the level of each task, in number order
unfoldable pub levels_of : Sheet → List ℕ
levels_of s = listed (task_count s) (level s)

-- 12 for a sheet's table of tasks first, then for the links'
unfoldable pub tabled : ℕ → ℕ → Sheet → Answer Sheet
tabled tasks links s =
    pick (ltb tasks (2 * task_count s)) (refused 12 (2 * task_count s))
    (pick (ltb links (4 * link_count s)) (refused 12 (4 * link_count s)) (value s))

-- processors, limit, task count, link count, unpacking time, and 1 for a cube
abbrev pub board_of : Sheet → List ℕ
board_of s = s.processors ∷ s.limit ∷ task_count s ∷ link_count s ∷ s.unpacking ∷ pick s.cube 1 0 ∷ []

abbrev pub no_place : {A : Type 0} → A → ℕ
no_place x = 0

abbrev pub task_table : Answer Sheet → Answer (List ℕ)
task_table a = and_then a (λ s. value (task_values s.tasks))

abbrev pub link_table : Answer Sheet → Answer (List ℕ)
link_table a = and_then a (λ s. value (link_values s.links))

abbrev pub board_after : List ℕ → Answer Sheet → List ℕ
board_after old (value s) = board_of s
board_after old (refused n at) = old

abbrev pub command_table : Answer Bundle → Answer (List ℕ)
command_table a = and_then a (λ b. value (bundle_values b))

abbrev pub claim_after : ℕ → Answer Bundle → ℕ
claim_after old (value b) = b.claim
claim_after old (refused n at) = old

abbrev pub value_count : Bundle → ℕ
value_count b = length (bundle_values b)

-- how many choices of a list step
abbrev pub stepped_in : List ℕ → Sheet × Bundle → ℕ
stepped_in choices x = (run_of x.0 x.1 choices).stepped

-- clock, position and store in use of processor k
abbrev pub numbers_of : State → ℕ → List ℕ
numbers_of σ k = (processor_of σ k).clock ∷ (processor_of σ k).position ∷ (processor_of σ k).store ∷ []
