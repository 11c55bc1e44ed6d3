-- What the search for circles and levels keeps in the work area, word by word.
--
-- In the word of task t from `marks_at` on stand the links out of it that are still to be counted off or, once t is at place j of the queue, 65536 * (256 - j).
use Rattle.std.specs.Prelude.{ℕ, ◌+◌, ◌-◌, ◌*◌, ◌/◌, ◌%◌, ◌≤◌, ◌<◌, Bool, ◌≡◌, List, length, get_or, set, eqb, ltb}
use Rattle.workspace.specs.Area.{fixed, heads_at, levels_at, marks_at, opened_at, queue_at}
use Rattle.folds.specs.Folds.{bit, both, either, sum}
use Rattle.sheet.specs.Sheet.{Sheet, task_count, link_count, target_of}
use Rattle.sheet.specs.Tables.{sheet_in, Loaded}
use Rattle.adjacency.specs.Frames.{Only}

-- an area that holds a sheet, with what the code asks of it most
pub record Held (w : List ℕ) : Type 0 where
  pub loaded : Loaded w
  pub long : fixed ≤ length w
  pub few_tasks : task_count (sheet_in w) ≤ 256
  pub few_links : link_count (sheet_in w) ≤ 1024

-- outside the words of the search, and in the chains, all is as it was
pub record Outside (w w' : List ℕ) : Type 0 where
  pub kept : Only levels_at opened_at w w'
  pub chains : (i : ℕ) → heads_at ≤ i → i < marks_at → get_or w' i 0 ≡ get_or w i 0

-- the queue's task at place j
abbrev pub task_at : List ℕ → ℕ → ℕ
task_at w j = get_or w (queue_at + j) 0

-- nothing but the marks and the queue was written, and of the queue of k tasks, which now has r, those stay
pub record Grown (k r : ℕ) (w w' : List ℕ) : Type 0 where
  pub only : Only marks_at opened_at w w'
  pub more : k ≤ r
  pub queue : (j : ℕ) → j < k → task_at w' j ≡ task_at w j

-- how many links out of t are still to be counted off, and the place of t in the queue (256 where it is not in it)
unfoldable pub degree_in : List ℕ → ℕ → ℕ
degree_in w t = get_or w (marks_at + t) 0 % 65536

unfoldable pub place_in : List ℕ → ℕ → ℕ
place_in w t = 256 - get_or w (marks_at + t) 0 / 65536

-- the queue holds k tasks below n, each once
unfoldable pub in_queue : List ℕ → ℕ → ℕ
in_queue w t = bit (ltb (place_in w t) 256)

pub record Queued (n k : ℕ) (w : List ℕ) : Type 0 where
  pub task : (j : ℕ) → j < k → get_or w (queue_at + j) 0 < n
  pub place : (j : ℕ) → j < k → place_in w (get_or w (queue_at + j) 0) ≡ j
  pub few : (t : ℕ) → t < n → place_in w t < 256 → place_in w t < k
  pub back : (t : ℕ) → t < n → place_in w t < 256 → get_or w (queue_at + place_in w t) 0 ≡ t
  pub count : k ≡ sum n (in_queue w)

-- link l leads to one of the first i tasks of the queue
unfoldable pub done_by : Sheet → ℕ → List ℕ → ℕ → Bool
done_by s i w l = ltb (place_in w (target_of s l)) i

-- link l leads to one of the first i tasks of the queue or, being below j, to v
unfoldable pub done_up_to : Sheet → ℕ → ℕ → ℕ → List ℕ → ℕ → Bool
done_up_to s i j v w l = either (ltb (place_in w (target_of s l)) i) (both (eqb (target_of s l) v) (ltb l j))

-- u put at place k of the queue
unfoldable pub pushed : List ℕ → ℕ → ℕ → List ℕ
pushed w k u = set (set w (queue_at + k) u) (marks_at + u) (65536 * (256 - k))
