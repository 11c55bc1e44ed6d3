-- Levels in the order of the thesis, "from tasks without successors backward" (C-15): the steps of the loop, each by the areas before and after it.
use Rattle.std.specs.Prelude.{ℕ, ◌+◌, ◌≤◌, ◌<◌, ◌≡◌, ◌≢◌, List}
use Rattle.folds.specs.Folds.{greatest}
use Rattle.sheet.specs.Sheet.{Sheet, task_count, link_count, work_of, source_of, target_of}
use Rattle.graph.specs.Graph.{level_by}
use Rattle.sheet.specs.Tables.{sheet_in}
use Rattle.topological_order.specs.Words.{Outside, task_at}
use Rattle.topological_order.specs.Peeling.{level_in, Peeled, FirstLevels}

-- t is the task of one of the first i steps
pub record Before (w : List ℕ) (i t : ℕ) : Type 0 where
  pub step : ℕ
  pub early : step < i
  pub is : task_at w step ≡ t

-- step i: the level of the queue's task i is set
pub record LevelSet (s : Sheet) (i : ℕ) (w w' : List ℕ) : Type 0 where
  pub task : task_at w i < task_count s
  -- it was not set before
  pub new : Before w i (task_at w i) → ⊥
  -- "after those of all its successors"
  pub successors : (l : ℕ) → l < link_count s → source_of s l ≡ task_at w i → Before w i (target_of s l)
  -- L(x) = τ_x + the greatest of c_xj + L(j) over the immediate successors j
  pub value : level_in w' (task_at w i) ≡ work_of s (task_at w i) + greatest (link_count s) (level_by s (level_in w) (task_at w i))
  -- "each step sets one task's level": no other's
  pub one : (t : ℕ) → t < task_count s → t ≢ task_at w i → level_in w' t ≡ level_in w t
  -- the tasks of this step and of those before it stay in their places
  pub order : (j : ℕ) → j ≤ i → task_at w' j ≡ task_at w j

-- the loop from the area a, with i steps done, to the area b, with k done
pub data Steps (s : Sheet) (i : ℕ) (a : List ℕ) : ℕ → List ℕ → Type 0 where
  here : Steps s i a i a
  then : {k : ℕ} {b c : List ℕ} → Steps s i a k b → LevelSet s k b c → Steps s i a (k + 1) c

-- k steps from a to b: each sets one task's level, "for good", after those of all its successors
pub record InThesisOrder (s : Sheet) (k : ℕ) (a b : List ℕ) : Type 0 where
  pub steps : Steps s 0 a k b
  -- no later step changes the level that a step has set
  pub for_good : {i : ℕ} {c d : List ℕ} → LevelSet s i c d → Steps s (i + 1) d k b → level_in b (task_at c i) ≡ level_in d (task_at c i)

-- the levels were set in that order from some area on
pub record Ordered (s : Sheet) (k : ℕ) (b : List ℕ) : Type 0 where
  pub begin : List ℕ
  pub order : InThesisOrder s k begin b

-- what a step of the loop gives: the step, and what the next one goes on with
pub record Taken (i r : ℕ) (w w' : List ℕ) : Type 0 where
  pub outside : Outside w w'
  pub peeled : Peeled (sheet_in w) (i + 1) r 0 0 w'
  pub levels : FirstLevels (sheet_in w) (i + 1) w'
  pub step : LevelSet (sheet_in w) i w w'

-- all that can be taken off: r tasks, with their levels
pub record AllTaken (s : Sheet) (r : ℕ) (w : List ℕ) : Type 0 where
  pub peeled : Peeled s r r 0 0 w
  pub levels : FirstLevels s r w
