-- The listing of a plan, or of a refusal, as bytes.
use Rattle.std.specs.Prelude.{ℕ, zero, suc, ◌+◌, ◌/◌, ◌%◌, List, [], ◌∷◌, ◌++◌, ltb}
use Rattle.folds.specs.Folds.{pick, gather}
use Rattle.folds.specs.Answers.{Answer, value, refused, and_then}
use Rattle.sheet.specs.Sheet.{Sheet, task_count}
use Rattle.graph.specs.Graph.{read_sheet}
use Rattle.planner.specs.Schedule.{Schedule, place_of, start_of, finish_of}
use Rattle.planner.specs.Planner.{planned, running, claim_of}

abbrev pub digit : ℕ → ℕ
digit d = 48 + d

-- the decimal digits of n, highest first; f bounds their count
unfoldable pub decimal_within : ℕ → ℕ → List ℕ
decimal_within zero n = []
decimal_within (suc f) n = pick (ltb n 10) [] (decimal_within f (n / 10)) ++ digit (n % 10) ∷ []

-- a number below 2 ^ 64 has at most 20 digits
unfoldable pub decimal : ℕ → List ℕ
decimal n = decimal_within 20 n

-- the bytes of PLAN and REFUSED
abbrev pub plan_word : List ℕ
plan_word = 0x50 ∷ 0x4C ∷ 0x41 ∷ 0x4E ∷ []

abbrev pub refused_word : List ℕ
refused_word = 0x52 ∷ 0x45 ∷ 0x46 ∷ 0x55 ∷ 0x53 ∷ 0x45 ∷ 0x44 ∷ []

-- "Fields are decimal, one space between; each line ends with byte 0A"
abbrev pub field : ℕ → List ℕ
field n = 0x20 ∷ decimal n

abbrev pub line_end : List ℕ
line_end = 0x0A ∷ []

-- "PLAN, processors opened, claim", and C-20 of document 02: "`PLAN` counts processors that run a task, on every sheet"
unfoldable pub plan_line : Sheet → Schedule → List ℕ
plan_line s σ = plan_word ++ (field (running s σ) ++ (field (claim_of s σ) ++ line_end))

-- "task, processor, start, finish"
unfoldable pub task_line : Schedule → ℕ → List ℕ
task_line σ t = decimal t ++ (field (place_of σ t) ++ (field (start_of σ t) ++ (field (finish_of σ t) ++ line_end)))

-- "A refusal prints REFUSED, number, place"
unfoldable pub refusal_line : ℕ → ℕ → List ℕ
refusal_line number place = refused_word ++ (field number ++ (field place ++ line_end))

unfoldable pub schedule_lines : Sheet → Schedule → List ℕ
schedule_lines s σ = plan_line s σ ++ gather (task_count s) (task_line σ)

-- a sheet with its schedule, or the refusal
abbrev pub scheduled : List ℕ → Answer (Sheet × Schedule)
scheduled b = and_then (read_sheet b) (λ s. and_then (planned s) (λ σ. value (s, σ)))

abbrev pub lines_of : Answer (Sheet × Schedule) → List ℕ
lines_of (value x) = schedule_lines x.0 x.1
lines_of (refused n at) = refusal_line n at

-- the listing of the bytes of a sheet
unfoldable pub listing : List ℕ → List ℕ
listing b = lines_of (scheduled b)
