-- "Every sheet written is shown to be read without refusal", of the functions of the interface: `Gives..` is what a call promises, word for word.
use Rattle.std.specs.Prelude.{ℕ, ◌*◌, ◌≤◌, ◌<◌, ◌≡◌, List, length, take}
use Rattle.folds.specs.Answers.{value}
use Rattle.workspace.specs.Area.{fixed}
use Rattle.sheet.specs.Sheet.{link_count}
use Rattle.sheet.specs.Writing.{sheet_bytes, task_values, link_values}
use Rattle.graph.specs.Graph.{read_sheet}
use Rattle.generator.specs.Load.{sheet_from}
use Rattle.entry_points.specs.Values.{board_of}
use Rattle.zeldrupa.specs.Promises.{GivesGenerated, read_sheet_answer, GivesSheet}

-- of a call of zeldrupa_generate with these arguments that returned 0
pub record Load (seed tasks tries processors limit : ℕ) (out' : List ℕ) (n : ℕ) : Type 0 where
  -- it wrote the bytes of the definition's sheet, and they are read as that sheet
  pub bytes : take n out' ≡ sheet_bytes (sheet_from seed tasks processors limit tries)
  pub reads : read_sheet (take n out') ≡ value (sheet_from seed tasks processors limit tries)
  -- so zeldrupa_read_sheet, lent room for all tasks and tries, does not refuse them, and gives that sheet's values
  pub values :
      (area area' t t' l l' b b' : List ℕ) (p r : ℕ) → fixed ≤ length area → 2 * tasks ≤ length t → 4 * tries ≤ length l →
      GivesSheet (read_sheet_answer (take n out') (length area) (length t) (length l)) area area' t t' l l' b b' p r →
      (r ≡ 0) × (take (2 * tasks) t' ≡ task_values (sheet_from seed tasks processors limit tries).tasks)
      × (take (4 * link_count (sheet_from seed tasks processors limit tries)) l' ≡ link_values (sheet_from seed tasks processors limit tries).links)
      × (b' ≡ board_of (sheet_from seed tasks processors limit tries))
  -- and a call with the same arguments that also returned 0 wrote the same bytes
  pub again :
      (area area' put put' : List ℕ) (k : ℕ) → GivesGenerated seed tasks tries processors limit area area' put put' k 0 →
      (k ≡ n) × (take k put' ≡ take n out')

abbrev pub Loads : Type 0
Loads =
    (seed tasks tries processors limit : ℕ) → limit < 4294967296 →
    (work work' out out' : List ℕ) (n : ℕ) → GivesGenerated seed tasks tries processors limit work work' out out' n 0 →
    Load seed tasks tries processors limit out' n
