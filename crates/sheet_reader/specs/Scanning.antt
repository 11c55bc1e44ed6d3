-- A sheet that is being read from bytes: the tables so far, and that what is still to be read gives the whole answer.
use Rattle.std.specs.Prelude.{ℕ, suc, ◌+◌, ◌≤◌, ◌≡◌, ◌≢◌, List, length, get_or, drop}
use Rattle.workspace.specs.Area.{link_count_at, task_count_at}
use Rattle.folds.specs.Answers.{Answer}
use Rattle.numbers.specs.Number.{number_at}
use Rattle.commands.specs.Commands.{go, judge, read_from}
use Rattle.commands.specs.Reading.{Going}
use Rattle.sheet.specs.Sheet.{Sheet}
use Rattle.sheet.specs.Format.{Kind, unpack, wire, task, sheet_format}
use Rattle.sheet.specs.Tables.{sheet_in, Loaded, Filling, link_words, pair_words}
use Rattle.sheet.specs.Faults.{begun}

-- at offset `at` no command of kind k comes that nothing refuses
abbrev pub Absent : Kind → List ℕ → List ℕ → ℕ → Type 0
Absent k b w at = judge sheet_format (begun (sheet_in w)) (drop at b) ≢ go k

-- nothing of the board is left at offset `at`: no unpacking time and no cube comes there that nothing refuses
pub record BoardRead (b w : List ℕ) (at : ℕ) : Type 0 where
  pub no_unpacking : Absent unpack b w at
  pub no_cube : Absent wire b w at

-- the sheet so far is in the words w, which have n tasks and m links; d is still to be read, from offset e on, and gives the answer a
pub record Scanning (a : Answer Sheet) (d w₀ w : List ℕ) (n m e : ℕ) : Type 0 where
  pub long : length w ≡ length w₀
  pub loaded : Loaded w
  pub tasks : get_or w task_count_at 0 ≡ n
  pub links : get_or w link_count_at 0 ≡ m
  pub going : Going sheet_format a (begun (sheet_in w)) e d

-- the same of bytes of which the first `at` are read
pub record Walking (a : Answer Sheet) (b w₀ w : List ℕ) (n m at : ℕ) : Type 0 where
  pub room : at ≤ length b
  pub scanning : Scanning a (drop at b) w₀ w n m at

-- the same behind the tasks: a bit is kept for each pair that a link joins
pub record Linking (a : Answer Sheet) (b w₀ w : List ℕ) (n m at : ℕ) : Type 0 where
  pub walking : Walking a b w₀ w n m at
  pub filling : Filling w
  pub board : BoardRead b w at
  pub without_task : Absent task b w at

-- the words with the link of the command at offset `at` put behind m others
unfoldable pub added_words : List ℕ → ℕ → List ℕ → ℕ → List ℕ
added_words b at w m =
    link_words (pair_words w (get_or b (at + 1) 0) (get_or b (at + 2) 0)) m (get_or b (at + 1) 0) (get_or b (at + 2) 0) (number_at 2 b (at + 3)) (number_at 2 b (at + 5))

-- what reading on gives, behind the sheet in w, with d from offset e on
unfoldable pub read_on : List ℕ → List ℕ → ℕ → Answer Sheet
read_on w d e = read_from sheet_format (suc (length d)) (begun (sheet_in w)) e d
