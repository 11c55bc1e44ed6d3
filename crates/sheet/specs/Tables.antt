-- A sheet as it stands in the tables of the work area, and what the code may take for granted of them.
use Rattle.std.specs.Prelude.{ℕ, ◌+◌, ◌*◌, ◌/◌, ◌%◌, ◌^◌, ◌≤◌, ◌<◌, Bool, ◌≡◌, List, length, get_or, set, eqb}
use Rattle.folds.specs.Folds.{listed}
use Rattle.workspace.specs.Area.{fixed, limit_at, link_count_at, links_at, pairs_at, processors_at, sizes_at, task_count_at, tasks_at, unpacking_at, cube_at}
use Rattle.sheet.specs.Sheet.{Sheet, Task, Link, task_count, link_count, work_of, store_of, source_of, target_of, cost_of, bytes_of}
use Rattle.sheet.specs.Format.{joins}

-- the task of a word, and the link of two
abbrev pub task_of_word : ℕ → Task
task_of_word x = record { work = x % 65536; store = x / 65536 }

abbrev pub link_of_words : ℕ → ℕ → Link
link_of_words x y = record { source = x % 256; target = x / 256 % 256; cost = x / 65536; bytes = y }

abbrev pub task_in : List ℕ → ℕ → Task
task_in w t = task_of_word (get_or w (tasks_at + t) 0)

abbrev pub link_in : List ℕ → ℕ → Link
link_in w l = link_of_words (get_or w (links_at + l) 0) (get_or w (sizes_at + l) 0)

unfoldable pub sheet_in : List ℕ → Sheet
sheet_in w =
    record { processors = get_or w processors_at 0; limit = get_or w limit_at 0; unpacking = get_or w unpacking_at 0; cube = eqb (get_or w cube_at 0) 1; tasks = listed (get_or w task_count_at 0) (task_in w); links = listed (get_or w link_count_at 0) (link_in w) }

-- the tables hold a sheet whose numbers are in their ranges (a work always is) and whose links name its tasks
pub record Loaded (w : List ℕ) : Type 0 where
  pub long : fixed ≤ length w
  pub tasks : get_or w task_count_at 0 ≤ 256
  pub links : get_or w link_count_at 0 ≤ 1024
  pub processors : get_or w processors_at 0 ≤ 16
  pub unpacks : get_or w unpacking_at 0 < 65536
  pub stores : (t : ℕ) → t < get_or w task_count_at 0 → (task_in w t).store < 65536
  pub source : (l : ℕ) → l < get_or w link_count_at 0 → (link_in w l).source < get_or w task_count_at 0
  pub target : (l : ℕ) → l < get_or w link_count_at 0 → (link_in w l).target < get_or w task_count_at 0
  pub costs : (l : ℕ) → l < get_or w link_count_at 0 → (link_in w l).cost < 65536
  pub sizes : (l : ℕ) → l < get_or w link_count_at 0 → (link_in w l).bytes < 65536

-- the same of the sheet itself
pub record Ranged (s : Sheet) : Type 0 where
  pub few_tasks : task_count s ≤ 256
  pub few_links : link_count s ≤ 1024
  pub few_processors : s.processors ≤ 16
  pub unpacks : s.unpacking < 65536
  pub works : (t : ℕ) → t < task_count s → work_of s t < 65536
  pub stores : (t : ℕ) → t < task_count s → store_of s t < 65536
  pub source : (l : ℕ) → l < link_count s → source_of s l < task_count s
  pub target : (l : ℕ) → l < link_count s → target_of s l < task_count s
  pub costs : (l : ℕ) → l < link_count s → cost_of s l < 65536
  pub sizes : (l : ℕ) → l < link_count s → bytes_of s l < 65536

-- bit j of x, and the bit of the pair of tasks a and b
unfoldable pub bit_at : ℕ → ℕ → ℕ
bit_at x j = x / 2 ^ j % 2

unfoldable pub pair_in : List ℕ → ℕ → ℕ → Bool
pair_in w a b = eqb (bit_at (get_or w (pairs_at + (8 * a + b / 32)) 0) (b % 32)) 1

-- a sheet whose links are being read: its tables, and a bit for each pair of tasks that a link joins
pub record Filling (w : List ℕ) : Type 0 where
  pub loaded : Loaded w
  pub pairs : (a b : ℕ) → a < get_or w task_count_at 0 → b < get_or w task_count_at 0 → pair_in w a b ≡ joins (sheet_in w) a b

-- the words with one task more, and with one link more
unfoldable pub task_words : List ℕ → ℕ → ℕ → ℕ → List ℕ
task_words w n work store = set (set w (tasks_at + n) (work + 65536 * store)) task_count_at (n + 1)

unfoldable pub link_words : List ℕ → ℕ → ℕ → ℕ → ℕ → ℕ → List ℕ
link_words w m source target cost bytes =
    set (set (set w (links_at + m) (source + 256 * target + 65536 * cost)) (sizes_at + m) bytes) link_count_at (m + 1)

-- the words with the bit of a pair set, where it was not
unfoldable pub pair_words : List ℕ → ℕ → ℕ → List ℕ
pair_words w a b = set w (pairs_at + (8 * a + b / 32)) (get_or w (pairs_at + (8 * a + b / 32)) 0 + 2 ^ (b % 32))

-- the words of a sheet without tasks
unfoldable pub board_words : List ℕ → ℕ → ℕ → List ℕ
board_words w processors limit = set (set (set (set (set (set w task_count_at 0) link_count_at 0) processors_at processors) limit_at limit) unpacking_at 0) cube_at 0

-- the words with this time for unpacking, and those of a cube
unfoldable pub unpacking_words : List ℕ → ℕ → List ℕ
unpacking_words w unpacking = set w unpacking_at unpacking

unfoldable pub cube_words : List ℕ → List ℕ
cube_words w = set w cube_at 1

-- the pair words below word n are 0, and the words before them as they were
pub record Blanked (n : ℕ) (w last : List ℕ) : Type 0 where
  pub long : length last ≡ length w
  pub low : (i : ℕ) → i < pairs_at → get_or last i 0 ≡ get_or w i 0
  pub zeros : (i : ℕ) → pairs_at ≤ i → i < n → get_or last i 0 ≡ 0

-- the tables hold this sheet
pub record LoadedOf (s : Sheet) (w last : List ℕ) : Type 0 where
  pub long : length last ≡ length w
  pub loaded : Loaded last
  pub sheet : sheet_in last ≡ s
