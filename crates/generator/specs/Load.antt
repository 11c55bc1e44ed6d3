-- A sheet from a seed: its tasks and its links by draws, in the order in which they are made.
use Rattle.std.specs.Prelude.{ℕ, zero, suc, ◌+◌, ◌*◌, ◌%◌, Bool, false, not, [], ◌∷◌, ◌++◌, ◌==◌, nat_lt}
use Rattle.folds.specs.Folds.{pick, both, either, listed}
use Rattle.folds.specs.Answers.{Answer, value, refused}
use Rattle.sheet.specs.Sheet.{Sheet, Task, Link}
use Rattle.sheet.specs.Format.{joins}
use Rattle.generator.specs.Draw.{start_of, after, drawn}
use Rattle.generator.specs.declared.draws.Draws.{Draws}

-- "Per task: work = 1 + draw mod 100, store = draw mod 64"
unfoldable pub task_behind : Draws → Task
task_behind d = record { work = 1 + drawn 1 d % 100; store = drawn 2 d % 64 }

-- "Per try: from and to = draw mod n, cost = draw mod 50, bytes = draw mod 16, always four draws in that order"
unfoldable pub try_behind : ℕ → Draws → Link
try_behind n d = record { source = drawn 1 d % n; target = drawn 2 d % n; cost = drawn 3 d % 50; bytes = drawn 4 d % 16 }

-- task i stands behind two draws for each before it, try j behind those of all n tasks and four for each try before it
unfoldable pub task_at : ℕ → ℕ → Task
task_at seed i = task_behind (after (2 * i) (start_of seed))

unfoldable pub try_at : ℕ → ℕ → ℕ → Link
try_at seed n j = try_behind n (after (2 * n + 4 * j) (start_of seed))

abbrev pub with_link : Sheet → Link → Sheet
with_link s x = record { processors = s.processors; limit = s.limit; unpacking = s.unpacking; cube = s.cube; tasks = s.tasks; links = s.links ++ x ∷ [] }

-- "the link is written if from is below to and the pair is not there yet"
unfoldable pub is_new : Sheet → Link → Bool
is_new s x = both (nat_lt x.source x.target) (not (joins s x.source x.target))

unfoldable pub tried : Sheet → Link → Sheet
tried s x = pick (is_new s x) (with_link s x) s

-- i tasks and no link
unfoldable pub tasks_from : ℕ → ℕ → ℕ → ℕ → Sheet
tasks_from seed processors limit i = record { processors = processors; limit = limit; unpacking = 0; cube = false; tasks = listed i (task_at seed); links = [] }

-- n tasks, and then the links of m tries
unfoldable pub sheet_from : ℕ → ℕ → ℕ → ℕ → ℕ → Sheet
sheet_from seed n processors limit zero = tasks_from seed processors limit n
sheet_from seed n processors limit (suc m) = tried (sheet_from seed n processors limit m) (try_at seed n m)

abbrev pub beyond : ℕ → ℕ → ℕ → Bool
beyond least most x = either (nat_lt x least) (nat_lt most x)

-- "Seed 0, n outside 1 to 256, m above 1,024 or wrong processors", of which a sheet has 1 to 16
unfoldable pub outside : ℕ → ℕ → ℕ → ℕ → Bool
outside seed n m processors = either (seed == 0) (either (beyond 1 256 n) (either (nat_lt 1024 m) (beyond 1 16 processors)))

-- ".. give 6, place 0"; else the sheet
unfoldable pub generated : ℕ → ℕ → ℕ → ℕ → ℕ → Answer Sheet
generated seed n m processors limit = pick (outside seed n m processors) (refused 6 0) (value (sheet_from seed n processors limit m))
