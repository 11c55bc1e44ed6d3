-- The key of a task says in one number who goes first: by priority, then by level, then by the lower task number.
-- The table of keys holds, for each task, the key that it has while it is ready, and 256 behind the one that it has while it is partly ready.
use Rattle.std.specs.Prelude.{ℕ, ◌+◌, ◌*◌, ◌-◌, ◌≤◌, ◌<◌, true, false, ◌≡◌, ◌≢◌, List, get_or}
use Rattle.std.proofs.Math.Option.{Option}
use Rattle.folds.specs.Folds.{pick, any}
use Rattle.readiness.specs.Keys.{index_of, Blocked}
use Rattle.sheet.specs.Sheet.{Sheet, task_count, link_count, source_of, target_of}
use Rattle.graph.specs.Graph.{level}
use Rattle.planner.specs.Schedule.{Schedule, placed}
use Rattle.planner.specs.Placing.{comes, ready, partly_ready, priority, ready_priority}

-- the key of t, whose priority is p
unfoldable pub key_of : Sheet → ℕ → ℕ → ℕ
key_of s p t = (p * 33554432 + level s t + 1) * 256 + (255 - t)

unfoldable pub ready_key : Sheet → Schedule → ℕ → ℕ
ready_key s σ t = pick (ready s σ t) (key_of s (ready_priority s σ t) t) 0

unfoldable pub partly_key : Sheet → Schedule → ℕ → ℕ
partly_key s σ t = pick (partly_ready s σ t) (key_of s (priority s σ t) t) 0

-- the task of a key, and none of 0
abbrev pub task_of : ℕ → Option ℕ
task_of x = index_of 256 x

-- the table holds the keys of u
pub record Fresh (s : Sheet) (σ : Schedule) (q : List ℕ) (u : ℕ) : Type 0 where
  pub ready : get_or q u 0 ≡ ready_key s σ u
  pub partly : get_or q (256 + u) 0 ≡ partly_key s σ u

-- the table holds no key of u
pub record Blank (q : List ℕ) (u : ℕ) : Type 0 where
  pub ready : get_or q u 0 ≡ 0
  pub partly : get_or q (256 + u) 0 ≡ 0

-- the keys of u are those of the schedule now, and all others are as they were
pub record Renewed (s : Sheet) (σ : Schedule) (q q' : List ℕ) (u : ℕ) : Type 0 where
  pub blocked : Blocked q'
  pub fresh : Fresh s σ q' u
  pub ready : (v : ℕ) → v < 256 → v ≢ u → get_or q' v 0 ≡ get_or q v 0
  pub partly : (v : ℕ) → v < 256 → v ≢ u → get_or q' (256 + v) 0 ≡ get_or q (256 + v) 0

-- the keys of the tasks below t
pub record KeyedTo (s : Sheet) (σ : Schedule) (t : ℕ) (q : List ℕ) : Type 0 where
  pub blocked : Blocked q
  pub fresh : (u : ℕ) → u < t → Fresh s σ q u
  pub blank : (u : ℕ) → t ≤ u → u < 256 → Blank q u

-- the keys of all tasks
pub record Keyed (s : Sheet) (σ : Schedule) (q : List ℕ) : Type 0 where
  pub keys : KeyedTo s σ (task_count s) q

-- no link from t, from number l on, leads to u
pub record Passed (s : Sheet) (t l u : ℕ) : Type 0 where
  pub none_leads : (i : ℕ) → l ≤ i → i < link_count s → source_of s i ≡ t → target_of s i ≢ u

-- u is not placed, a link from a placed task leads to it, and the table holds the keys from before that one was placed: u was not ready, and its key was no greater
pub record Waiting (s : Sheet) (σ : Schedule) (q : List ℕ) (u : ℕ) : Type 0 where
  pub free : placed σ u ≡ false
  pub known : any (link_count s) (comes s σ u) ≡ true
  pub ready : get_or q u 0 ≡ 0
  pub partly : get_or q (256 + u) 0 ≤ key_of s (priority s σ u) u

-- the keys of all tasks but those to which the links from t lead, from number l on
pub record KeyedPast (s : Sheet) (σ : Schedule) (t l : ℕ) (q : List ℕ) : Type 0 where
  pub blocked : Blocked q
  pub fresh : (u : ℕ) → u < task_count s → Passed s t l u → Fresh s σ q u
  pub waiting : (i : ℕ) → l ≤ i → i < link_count s → source_of s i ≡ t → Waiting s σ q (target_of s i)
  pub blank : (u : ℕ) → task_count s ≤ u → u < 256 → Blank q u

-- the keys of all tasks but those to which links from t lead and t itself, which is placed now and was ready before
pub record KeyedBeside (s : Sheet) (σ : Schedule) (t : ℕ) (q : List ℕ) : Type 0 where
  pub blocked : Blocked q
  pub on : placed σ t ≡ true
  pub partly : get_or q (256 + t) 0 ≡ 0
  pub fresh : (u : ℕ) → u < task_count s → u ≢ t → Passed s t 0 u → Fresh s σ q u
  pub waiting : (i : ℕ) → i < link_count s → source_of s i ≡ t → Waiting s σ q (target_of s i)
  pub blank : (u : ℕ) → task_count s ≤ u → u < 256 → Blank q u
