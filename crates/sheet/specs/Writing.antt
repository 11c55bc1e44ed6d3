-- A sheet's bytes, and the bytes of a sheet that is given by its values.
use Rattle.std.specs.Prelude.{ℕ, ◌+◌, ◌*◌, ◌/◌, ◌%◌, ◌<◌, List, [], ◌∷◌, ◌++◌, Bool, not, length, get_or, eqb}
use Rattle.folds.specs.Folds.{pick, listed}
use Rattle.numbers.specs.Number.{number_bytes}
use Rattle.sheet.specs.Sheet.{Sheet, Task, Link}

-- "without it the time is 0"
abbrev pub unpacking_bytes : ℕ → List ℕ
unpacking_bytes unpacking = pick (eqb unpacking 0) [] (0x55 ∷ number_bytes 2 unpacking)

-- whether a value says that the board is a cube: 0 does not
abbrev pub cube_of : ℕ → Bool
cube_of value = not (eqb value 0)

abbrev pub cube_bytes : Bool → List ℕ
cube_bytes cube = pick cube (0x48 ∷ []) []

abbrev pub board_bytes : ℕ → ℕ → ℕ → Bool → List ℕ
board_bytes processors limit unpacking cube = 0x4D ∷ processors ∷ (number_bytes 4 limit ++ (unpacking_bytes unpacking ++ cube_bytes cube))

-- one task, and one link
abbrev pub task_command : Task → List ℕ
task_command t = 0x54 ∷ (number_bytes 2 t.work ++ number_bytes 2 t.store)

abbrev pub link_command : Link → List ℕ
link_command l = 0x45 ∷ l.source ∷ l.target ∷ (number_bytes 2 l.cost ++ number_bytes 2 l.bytes)

abbrev pub task_bytes : List Task → List ℕ
task_bytes [] = []
task_bytes (t ∷ ts) = 0x54 ∷ (number_bytes 2 t.work ++ (number_bytes 2 t.store ++ task_bytes ts))

abbrev pub link_bytes : List Link → List ℕ
link_bytes [] = []
link_bytes (l ∷ ls) = 0x45 ∷ l.source ∷ l.target ∷ (number_bytes 2 l.cost ++ (number_bytes 2 l.bytes ++ link_bytes ls))

unfoldable pub sheet_bytes : Sheet → List ℕ
sheet_bytes s = board_bytes s.processors s.limit s.unpacking s.cube ++ (task_bytes s.tasks ++ (link_bytes s.links ++ 0x51 ∷ []))

-- task i of two values a task (work, store), link j of four values a link (source, target, cost, bytes)
abbrev pub task_value : List ℕ → ℕ → Task
task_value v i = record { work = get_or v (2 * i) 0; store = get_or v (2 * i + 1) 0 }

abbrev pub link_value : List ℕ → ℕ → Link
link_value v j = record { source = get_or v (4 * j) 0; target = get_or v (4 * j + 1) 0; cost = get_or v (4 * j + 2) 0; bytes = get_or v (4 * j + 3) 0 }

-- the sheet of these values
unfoldable pub sheet_of_values : ℕ → ℕ → ℕ → Bool → List ℕ → List ℕ → Sheet
sheet_of_values processors limit unpacking cube tasks links =
    record { processors = processors; limit = limit; unpacking = unpacking; cube = cube; tasks = listed (length tasks / 2) (task_value tasks); links = listed (length links / 4) (link_value links) }

-- the bytes of these values: a list that stops inside a record stands for a command that is cut there
unfoldable pub link_value_bytes : List ℕ → List ℕ
link_value_bytes links =
    link_bytes (listed (length links / 4) (link_value links)) ++ pick (eqb (length links % 4) 0) (0x51 ∷ []) (0x45 ∷ [])

unfoldable pub task_value_bytes : List ℕ → List ℕ → List ℕ
task_value_bytes tasks links =
    task_bytes (listed (length tasks / 2) (task_value tasks)) ++ pick (eqb (length tasks % 2) 0) (link_value_bytes links) (0x54 ∷ [])

unfoldable pub value_bytes : ℕ → ℕ → ℕ → Bool → List ℕ → List ℕ → List ℕ
value_bytes processors limit unpacking cube tasks links = board_bytes processors limit unpacking cube ++ task_value_bytes tasks links

-- the values of a sheet
abbrev pub task_values : List Task → List ℕ
task_values [] = []
task_values (t ∷ ts) = t.work ∷ t.store ∷ task_values ts

abbrev pub link_values : List Link → List ℕ
link_values [] = []
link_values (l ∷ ls) = l.source ∷ l.target ∷ l.cost ∷ l.bytes ∷ link_values ls

-- each link names its ends by a byte
pub record Narrow (links : List ℕ) : Type 0 where
  pub sources : (j : ℕ) → j < length links / 4 → (link_value links j).source < 256
  pub targets : (j : ℕ) → j < length links / 4 → (link_value links j).target < 256
