-- Where the numbers of a sheet's tasks and links lie in its bytes, by where its tasks and its links begin.
use Rattle.std.specs.Prelude.{ℕ, ◌+◌, ◌*◌, ◌≤◌, ◌<◌, ◌≡◌, List, length, get_or}
use Rattle.numbers.specs.Number.{number_at}
use Rattle.sheet.specs.Sheet.{Sheet, task_count, link_count, work_of, store_of, source_of, target_of, cost_of, bytes_of}
use Rattle.sheet.specs.Sizes.{task_size, link_size}
use Rattle.sheet.specs.Tables.{Ranged}
use Rattle.admission.specs.declared.view.View.{View}

-- the tasks begin at the offset `front`
abbrev pub work_at : ℕ → ℕ → ℕ
work_at front t = front + 1 + task_size * t

abbrev pub store_at : ℕ → ℕ → ℕ
store_at front t = front + 3 + task_size * t

-- the links begin at the offset `middle`
abbrev pub source_at : ℕ → ℕ → ℕ
source_at middle l = middle + 1 + link_size * l

abbrev pub target_at : ℕ → ℕ → ℕ
target_at middle l = middle + 2 + link_size * l

abbrev pub cost_at : ℕ → ℕ → ℕ
cost_at middle l = middle + 3 + link_size * l

abbrev pub bytes_at : ℕ → ℕ → ℕ
bytes_at middle l = middle + 5 + link_size * l

pub record Fields (s : Sheet) (sheet : List ℕ) (front middle : ℕ) : Type 0 where
  pub behind : middle ≡ front + task_size * task_count s
  pub inside : middle + link_size * link_count s ≤ length sheet
  pub work : (t : ℕ) → t < task_count s → number_at 2 sheet (work_at front t) ≡ work_of s t
  pub store : (t : ℕ) → t < task_count s → number_at 2 sheet (store_at front t) ≡ store_of s t
  pub source : (l : ℕ) → l < link_count s → get_or sheet (source_at middle l) 0 ≡ source_of s l
  pub target : (l : ℕ) → l < link_count s → get_or sheet (target_at middle l) 0 ≡ target_of s l
  pub cost : (l : ℕ) → l < link_count s → number_at 2 sheet (cost_at middle l) ≡ cost_of s l
  pub bytes : (l : ℕ) → l < link_count s → number_at 2 sheet (bytes_at middle l) ≡ bytes_of s l

-- the sheet s, seen by v, in these bytes
pub record Known (s : Sheet) (sheet : List ℕ) (v : View) : Type 0 where
  pub fields : Fields s sheet v.front v.middle
  pub ranged : Ranged s
  pub processors : s.processors ≡ v.processors
  pub tasks : task_count s ≡ v.tasks
  pub links : link_count s ≡ v.links
  pub limited : s.limit ≡ v.limit
  pub unpacked : s.unpacking ≡ v.unpacking
  pub wired : s.cube ≡ v.cube

-- some sheet is seen by v in these bytes
pub record Seen (sheet : List ℕ) (v : View) : Type 0 where
  pub board : Sheet
  pub known : Known board sheet v
