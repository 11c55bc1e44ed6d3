-- Kahn's algorithm from the tasks without successors: what holds of the queue, the links still to be counted off, and the levels, after every step.
use Rattle.std.specs.Prelude.{ℕ, ◌+◌, ◌*◌, ◌≤◌, ◌<◌, Bool, true, false, not, ◌≡◌, List, get_or, eqb}
use Rattle.workspace.specs.Area.{levels_at}
use Rattle.folds.specs.Folds.{bit, both, sum, greatest}
use Rattle.sheet.specs.Sheet.{Sheet, task_count, link_count, work_of, source_of, target_of}
use Rattle.graph.specs.Graph.{level_by, reaches}
use Rattle.topological_order.specs.Words.{place_in, degree_in, task_at, Queued, done_by, done_up_to}

-- c says which links are counted off: a link out of t that is not
unfoldable pub due_by : Sheet → (ℕ → Bool) → ℕ → ℕ → ℕ
due_by s c t l = bit (both (eqb (source_of s l) t) (not (c l)))

-- the level that stands for t
unfoldable pub level_in : List ℕ → ℕ → ℕ
level_in w t = get_or w (levels_at + t) 0

-- i of the k tasks of the queue are taken off; of the tasks from e up to f it is not said that they wait for a link
pub record Peel (s : Sheet) (c : ℕ → Bool) (i k e f : ℕ) (w : List ℕ) : Type 0 where
  pub queued : Queued (task_count s) k w
  pub early : i ≤ k
  pub lit : (l : ℕ) → l < link_count s → c l ≡ true → place_in w (target_of s l) < i
  pub degree : (t : ℕ) → t < task_count s → degree_in w t ≡ sum (link_count s) (due_by s c t)
  pub ready : (t : ℕ) → t < task_count s → place_in w t < 256 → degree_in w t ≡ 0
  pub waits : (t : ℕ) → t < task_count s → (e ≤ t → t < f → ⊥) → degree_in w t ≡ 0 → place_in w t < 256
  pub falls : (l : ℕ) → l < link_count s → place_in w (source_of s l) < 256 → place_in w (target_of s l) < place_in w (source_of s l)

-- between two tasks
pub record Peeled (s : Sheet) (i k e f : ℕ) (w : List ℕ) : Type 0 where
  pub peel : Peel s (done_by s i w) i k e f w

-- the links into v, which is taken off next, are counted off below j
pub record Walking (s : Sheet) (i k j v e f : ℕ) (w : List ℕ) : Type 0 where
  pub peel : Peel s (done_up_to s i j v w) (i + 1) k e f w
  pub task : v < task_count s
  pub here : place_in w v ≡ i

-- the first i tasks of the queue have their levels
pub record FirstLevels (s : Sheet) (i : ℕ) (w : List ℕ) : Type 0 where
  pub level : (j : ℕ) → j < i → level_in w (task_at w j) ≡ work_of s (task_at w j) + greatest (link_count s) (level_by s (level_in w) (task_at w j))
  pub bounded : (j : ℕ) → j < i → level_in w (task_at w j) ≤ 131070 * i

-- the levels of v's successors are below what one more may add up to
pub record Moderate (s : Sheet) (v : ℕ) (w : List ℕ) : Type 0 where
  pub low : (l : ℕ) → l < link_count s → source_of s l ≡ v → level_in w (target_of s l) ≤ 131070 * 256

-- no link is counted off
unfoldable pub never : ℕ → Bool
never l = false

-- before it: the marks of the tasks below n are blank, and the links below l are counted at their sources
pub record Counted (s : Sheet) (n l : ℕ) (w : List ℕ) : Type 0 where
  pub degree : (t : ℕ) → t < n → degree_in w t ≡ sum l (due_by s never t)
  pub place : (t : ℕ) → t < n → place_in w t ≡ 256

-- the tasks below t without links are in the queue
pub record Filled (s : Sheet) (k t : ℕ) (w : List ℕ) : Type 0 where
  pub peeled : Peeled s 0 k t (task_count s) w
  pub rest : (u : ℕ) → t ≤ u → u < task_count s → 256 ≤ place_in w u

-- the search for paths to a goal: the queue holds the goal and tasks that reach it, none of which the goal has a link to;
-- of the links that c names the sources are in it
pub record Search (s : Sheet) (goal : ℕ) (c : ℕ → Bool) (k : ℕ) (w : List ℕ) : Type 0 where
  pub queued : Queued (task_count s) k w
  pub goal_task : goal < task_count s
  pub goal_in : place_in w goal < 256
  pub sound : (t : ℕ) → t < task_count s → place_in w t < 256 → (t ≡ goal → ⊥) → reaches (task_count s) s t goal ≡ true
  pub closed : (l : ℕ) → l < link_count s → c l ≡ true → place_in w (source_of s l) < 256
  pub apart : (l : ℕ) → l < link_count s → c l ≡ true → source_of s l ≡ goal → ⊥

pub record Searched (s : Sheet) (goal i k : ℕ) (w : List ℕ) : Type 0 where
  pub search : Search s goal (done_by s i w) k w

pub record Spreading (s : Sheet) (goal i k j v : ℕ) (w : List ℕ) : Type 0 where
  pub search : Search s goal (done_up_to s i j v w) k w
  pub task : v < task_count s
  pub here : place_in w v ≡ i
  pub early : i < k

-- u in the queue of k tasks, which now has r
pub record Noted (n k u r : ℕ) (w w' : List ℕ) : Type 0 where
  pub queued : Queued n r w'
  pub more : k ≤ r
  pub here : place_in w' u < 256
  pub else : (t : ℕ) → t < n → (t ≡ u → ⊥) → place_in w' t ≡ place_in w t
  pub kept : (t : ℕ) → t < n → place_in w t < 256 → place_in w' t ≡ place_in w t
  pub late : 256 ≤ place_in w u → place_in w' u ≡ k

-- none of the tasks below n is in the queue
pub record Emptied (n : ℕ) (w : List ℕ) : Type 0 where
  pub at : (t : ℕ) → t < n → place_in w t ≡ 256
