-- A task sheet: the board's processors, its store limit, the time that unpacking a message takes and whether it is wired as a cube, the tasks, and the links between them.
use Rattle.std.specs.Prelude.{ℕ, Bool, false, List, [], length, get_or}

pub record Task : Type 0 where
  pub work : ℕ
  pub store : ℕ

pub record Link : Type 0 where
  pub source : ℕ
  pub target : ℕ
  pub cost : ℕ
  pub bytes : ℕ

pub record Sheet : Type 0 where
  pub processors : ℕ
  pub limit : ℕ
  pub unpacking : ℕ
  pub cube : Bool
  pub tasks : List Task
  pub links : List Link

abbrev pub no_task : Task
no_task = record { work = 0; store = 0 }

abbrev pub no_link : Link
no_link = record { source = 0; target = 0; cost = 0; bytes = 0 }

abbrev pub no_sheet : Sheet
no_sheet = record { processors = 0; limit = 0; unpacking = 0; cube = false; tasks = []; links = [] }

unfoldable pub task_count : Sheet → ℕ
task_count s = length s.tasks

unfoldable pub link_count : Sheet → ℕ
link_count s = length s.links

unfoldable pub work_of : Sheet → ℕ → ℕ
work_of s t = (get_or s.tasks t no_task).work

unfoldable pub store_of : Sheet → ℕ → ℕ
store_of s t = (get_or s.tasks t no_task).store

unfoldable pub source_of : Sheet → ℕ → ℕ
source_of s l = (get_or s.links l no_link).source

unfoldable pub target_of : Sheet → ℕ → ℕ
target_of s l = (get_or s.links l no_link).target

unfoldable pub cost_of : Sheet → ℕ → ℕ
cost_of s l = (get_or s.links l no_link).cost

unfoldable pub bytes_of : Sheet → ℕ → ℕ
bytes_of s l = (get_or s.links l no_link).bytes
