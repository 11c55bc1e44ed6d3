-- The lent work area: its fixed length, and which words of it hold what. No other place knows a number of these. The checker and the machine's start, which read the
-- sheet's bytes, use the words behind the board as stepping_machine/specs/Layout lays them out.
use Rattle.std.specs.Prelude.{ℕ, ◌≤◌, ◌<◌, ◌≡◌, ◌⊎◌, List, length, get_or}

-- the length below which an area is refused (13), in words
abbrev pub fixed : ℕ
fixed = 4992

-- the board: the numbers of tasks and of links, the processors, the limit, the unpacking time, and 1 where the processors are wired as a cube
abbrev pub task_count_at : ℕ
task_count_at = 0

abbrev pub link_count_at : ℕ
link_count_at = 1

abbrev pub processors_at : ℕ
processors_at = 2

abbrev pub limit_at : ℕ
limit_at = 3

abbrev pub unpacking_at : ℕ
unpacking_at = 4

abbrev pub cube_at : ℕ
cube_at = 5

-- task t (of 256): work + 65536 * store
abbrev pub tasks_at : ℕ
tasks_at = 16

-- link l (of 1,024): source + 256 * target + 65536 * cost; and its bytes
abbrev pub links_at : ℕ
links_at = 272

abbrev pub sizes_at : ℕ
sizes_at = 1296

-- the level of task t
abbrev pub levels_at : ℕ
levels_at = 2320

-- the first link into task t + 65536 * the first link out of it; and of link l the next link into the same task + 65536 * the next out of the same task
abbrev pub heads_at : ℕ
heads_at = 2576

abbrev pub nexts_at : ℕ
nexts_at = 2832

-- the search for circles and levels: of task t the links out of it still to be counted off, or its place in the queue; and the queue
abbrev pub marks_at : ℕ
marks_at = 3856

abbrev pub queue_at : ℕ
queue_at = 4112

-- the schedule, where the search was: the processor of task t + 65536 * the task of turn t; the finish of task t; how many processors are open, and how many tasks
-- are placed
abbrev pub places_at : ℕ
places_at = 3856

abbrev pub finishes_at : ℕ
finishes_at = 4112

abbrev pub opened_at : ℕ
opened_at = 4368

abbrev pub placed_at : ℕ
placed_at = 4369

-- behind the schedule
abbrev pub schedule_end : ℕ
schedule_end = 4384

-- while a sheet is read, a bit for each pair of tasks, up to `opened_at`
abbrev pub pairs_at : ℕ
pairs_at = 2320

-- the words from a up to e are 0, and the others as they were
pub record ClearIs (w last : List ℕ) (a e : ℕ) : Type 0 where
  pub long : length last ≡ length w
  pub zeros : (i : ℕ) → a ≤ i → i < e → get_or last i 0 ≡ 0
  pub other : (i : ℕ) → (i < a) ⊎ (e ≤ i) → get_or last i 0 ≡ get_or w i 0

-- no word from a up to e is greater than r
pub record UnitedIs (w : List ℕ) (a e r : ℕ) : Type 0 where
  pub most : (i : ℕ) → a ≤ i → i < e → get_or w i 0 ≤ r
