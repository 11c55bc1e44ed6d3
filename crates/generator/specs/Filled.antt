-- The tables while a sheet is made from draws.
use Rattle.std.specs.Prelude.{◌≡◌, ℕ, ◌+◌, ◌*◌, List, length, slice_index, slice_index_or}
use Rattle.workspace.specs.Area.{link_count_at, task_count_at}
use Rattle.sheet.specs.Sheet.{Link}
use Rattle.sheet.specs.Tables.{sheet_in, Loaded, Filling}
use Rattle.generator.specs.Draw.{start_of, after}
use Rattle.generator.specs.Load.{tried, tasks_from, sheet_from}
use Rattle.generator.specs.declared.draws.Draws.{Draws}

-- the tables hold i tasks of a seed, and d is behind their draws
pub record Tasked (seed processors limit i : ℕ) (w₀ w : List ℕ) (d : Draws) : Type 0 where
  pub long : length w ≡ length w₀
  pub loaded : Loaded w
  pub tasks : slice_index_or w task_count_at 0 ≡ i
  pub links : slice_index_or w link_count_at 0 ≡ 0
  pub sheet : sheet_in w ≡ tasks_from seed processors limit i
  pub draws : d ≡ after (2 * i) (start_of seed)

-- a link was tried on the tables
pub record TriedIn (x : Link) (w₀ w : List ℕ) : Type 0 where
  pub long : length w ≡ length w₀
  pub filling : Filling w
  pub tasks : slice_index_or w task_count_at 0 ≡ slice_index w₀ task_count_at
  pub sheet : sheet_in w ≡ tried (sheet_in w₀) x

-- the tables hold n tasks of a seed and the links of j tries, and d is behind their draws
pub record Trying (seed n processors limit j : ℕ) (w₀ w : List ℕ) (d : Draws) : Type 0 where
  pub long : length w ≡ length w₀
  pub filling : Filling w
  pub tasks : slice_index_or w task_count_at 0 ≡ n
  pub sheet : sheet_in w ≡ sheet_from seed n processors limit j
  pub draws : d ≡ after (2 * n + 4 * j) (start_of seed)
