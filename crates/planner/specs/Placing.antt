-- What a turn of placing asks: who is ready, who goes first, where a task fits and starts, and what the guard bars.
-- The term of each fold has a name of its own, which the loops of the code cite.
use Rattle.std.specs.Prelude.{ℕ, zero, suc, ◌+◌, max, Bool, false, not, ltb, leb, eqb}
use Rattle.std.proofs.Math.Option.{Option, none, some}
use Rattle.folds.specs.Folds.{pick, both, either, any, all, sum, greatest, leading, least}
use Rattle.sheet.specs.Sheet.{Sheet, task_count, link_count, work_of, store_of, source_of, target_of, cost_of, bytes_of}
use Rattle.sheet.specs.Hops.{link_time}
use Rattle.graph.specs.Graph.{level}
use Rattle.planner.specs.Schedule.{Schedule, place_of, finish_of, placed, stands, put}

module _ (s : Sheet) where
  -- link l leads to t from a placed task; from one that is not placed; it leads elsewhere, or from a placed task
  unfoldable pub comes : Schedule → ℕ → ℕ → Bool
  comes σ t l = both (eqb (target_of s l) t) (placed σ (source_of s l))

  unfoldable pub lacks : Schedule → ℕ → ℕ → Bool
  lacks σ t l = both (eqb (target_of s l) t) (not (placed σ (source_of s l)))

  unfoldable pub satisfied : Schedule → ℕ → ℕ → Bool
  satisfied σ t l = either (not (eqb (target_of s l) t)) (placed σ (source_of s l))

  -- "ready when it is unplaced and all its predecessors are placed"
  unfoldable pub ready : Schedule → ℕ → Bool
  ready σ t = both (not (placed σ t)) (all (link_count s) (satisfied σ t))

  -- "partly ready when some are placed and some not"
  unfoldable pub partly_ready : Schedule → ℕ → Bool
  partly_ready σ t = both (not (placed σ t)) (both (any (link_count s) (comes σ t)) (any (link_count s) (lacks σ t)))

  -- C-20 of document 02: "A and partly ready arrivals count one hop": when the message of l is there, its source's finish and its cost
  abbrev pub reach_by : Schedule → ℕ → ℕ
  reach_by σ l = finish_of σ (source_of s l) + cost_of s l

  -- when the message of l is there on k, by the time that it takes from where its source stands
  abbrev pub reach_on : Schedule → ℕ → ℕ → ℕ
  reach_on σ k l = finish_of σ (source_of s l) + link_time s l (place_of σ (source_of s l)) k

  unfoldable pub arrival_by : Schedule → ℕ → ℕ → ℕ
  arrival_by σ t l = pick (comes σ t l) (reach_by σ l) 0

  -- of a partly ready task: "the greatest of (predecessor's finish + link cost), 0 without predecessors", over the placed ones
  unfoldable pub arrival : Schedule → ℕ → ℕ
  arrival σ t = greatest (link_count s) (arrival_by σ t)

  unfoldable pub priority : Schedule → ℕ → ℕ
  priority σ t = arrival σ t + level s t

  -- C-14 of document 02: "doing its receives in rising link number": those of the links below n that pass a test, from the time e on, where the
  -- message of l is there at x l. Each "sets the clock to the later of clock and stamp, plus this time"
  unfoldable pub unpacked : (ℕ → Bool) → (ℕ → ℕ) → ℕ → ℕ → ℕ
  unpacked test x e zero = e
  unpacked test x e (suc n) = pick (test n) (max (unpacked test x e n) (x n) + s.unpacking) (unpacked test x e n)

  -- "A ready task's A is its start on a fresh processor", where every link into it brings a message
  unfoldable pub ready_arrival : Schedule → ℕ → ℕ
  ready_arrival σ t = unpacked (comes σ t) (reach_by σ) 0 (link_count s)

  unfoldable pub ready_priority : Schedule → ℕ → ℕ
  ready_priority σ t = ready_arrival σ t + level s t

  -- "highest goes first; on a tie the greater b-level, then the lower task number", by the priorities f
  unfoldable pub ahead_by : (ℕ → ℕ) → ℕ → ℕ → Bool
  ahead_by f a b = either (ltb (f b) (f a)) (both (eqb (f b) (f a)) (ltb (level s b) (level s a)))

  unfoldable pub first_ready : Schedule → Option ℕ
  first_ready σ = leading (task_count s) (ready σ) (ahead_by (ready_priority σ))

  -- "Partly ready tasks leave unpacking out, in arrivals and in best starts"
  unfoldable pub first_partly_ready : Schedule → Option ℕ
  first_partly_ready σ = leading (task_count s) (partly_ready σ) (ahead_by (priority σ))

  unfoldable pub end_by : Schedule → ℕ → ℕ → ℕ
  end_by σ k u = pick (stands σ u k) (finish_of σ u) 0

  -- k's end time
  unfoldable pub end_of : Schedule → ℕ → ℕ
  end_of σ k = greatest (task_count s) (end_by σ k)

  -- "finish + (0 if on k, else cost)", on a cube the cost of each hop
  unfoldable pub start_by : Schedule → ℕ → ℕ → ℕ → ℕ
  start_by σ t k l = pick (comes σ t l) (finish_of σ (source_of s l) + pick (stands σ (source_of s l) k) 0 (link_time s l (place_of σ (source_of s l)) k)) 0

  -- the start of a partly ready t on k, whose end is e, by its placed predecessors
  unfoldable pub start_from : Schedule → ℕ → ℕ → ℕ → ℕ
  start_from σ t k e = max e (greatest (link_count s) (start_by σ t k))

  -- link l brings a message to t on k; a predecessor of t on k is over
  unfoldable pub elsewhere : Schedule → ℕ → ℕ → ℕ → Bool
  elsewhere σ t k l = both (comes σ t l) (not (stands σ (source_of s l) k))

  unfoldable pub near_by : Schedule → ℕ → ℕ → ℕ → ℕ
  near_by σ t k l = pick (both (comes σ t l) (stands σ (source_of s l) k)) (finish_of σ (source_of s l)) 0

  -- "A task's start on a processor is found by doing its receives in rising link number from that processor's end time, then waiting for its local predecessors"
  unfoldable pub start_on : Schedule → ℕ → ℕ → ℕ
  start_on σ t k = max (unpacked (elsewhere σ t k) (reach_on σ k) (end_of σ k) (link_count s)) (greatest (link_count s) (near_by σ t k))

  -- the store of u, if it stands on k; the bytes of link l, if it leads to k from another processor
  unfoldable pub store_by : Schedule → ℕ → ℕ → ℕ
  store_by σ k u = pick (stands σ u k) (store_of s u) 0

  unfoldable pub bytes_by : Schedule → ℕ → ℕ → ℕ
  bytes_by σ k l = pick (both (stands σ (target_of s l) k) (not (stands σ (source_of s l) k))) (bytes_of s l) 0

  unfoldable pub store_on : Schedule → ℕ → ℕ
  store_on σ k = sum (task_count s) (store_by σ k) + sum (link_count s) (bytes_by σ k)

  -- "t fits k when the stores of the tasks on k and t, plus the bytes of links into any of them from other processors, come to at most M"
  unfoldable pub fits : Schedule → ℕ → ℕ → Bool
  fits σ t k = leb (store_on (put σ t k 0 0) k) s.limit

  unfoldable pub holds_by : Schedule → ℕ → ℕ → ℕ → Bool
  holds_by σ t k l = both (eqb (target_of s l) t) (stands σ (source_of s l) k)

  -- k holds a predecessor of t
  unfoldable pub holds_predecessor : Schedule → ℕ → ℕ → Bool
  holds_predecessor σ t k = any (link_count s) (holds_by σ t k)

  -- the start of u by its placed predecessors, where processor k ends at `ends k`
  unfoldable pub start_with : Schedule → (ℕ → ℕ) → ℕ → ℕ → ℕ
  start_with σ ends u k = start_from σ u k (ends k)

  abbrev pub start_at : Schedule → (ℕ → ℕ) → ℕ → Option ℕ → ℕ
  start_at σ ends u none = 0
  start_at σ ends u (some k) = start_with σ ends u k

  -- "the least, over open processors holding a placed predecessor of u, of its start there"
  unfoldable pub best_start : Schedule → (ℕ → ℕ) → ℕ → ℕ
  best_start σ ends u = start_at σ ends u (least σ.opened (holds_predecessor σ u) (start_with σ ends u))

  -- the processors' ends, with t and its receives on k
  unfoldable pub ends_with : Schedule → ℕ → ℕ → ℕ → ℕ
  ends_with σ t k j = pick (eqb j k) (start_on σ t k + work_of s t) (end_of σ j)

  -- "that best is below u's arrival, and putting t on k would raise that best"
  unfoldable pub delays : Schedule → ℕ → ℕ → ℕ → Bool
  delays σ t u k =
      both (ltb (best_start σ (end_of σ) u) (arrival σ u)) (ltb (best_start σ (end_of σ) u) (best_start σ (ends_with σ t k) u))

  -- "the guard applies if the first partly ready task u has a strictly higher priority than t"
  abbrev pub barred_for : Schedule → ℕ → ℕ → Option ℕ → Bool
  barred_for σ t k none = false
  barred_for σ t k (some u) = both (ltb (ready_priority σ t) (priority σ u)) (delays σ t u k)

  unfoldable pub barred : Schedule → ℕ → ℕ → Bool
  barred σ t k = barred_for σ t k (first_partly_ready σ)

  -- k is open: it holds a task
  unfoldable pub is_open : Schedule → ℕ → Bool
  is_open σ k = any (task_count s) (λ u. stands σ u k)

  unfoldable pub follows_by : ℕ → ℕ → ℕ → Bool
  follows_by u t l = both (eqb (source_of s l) t) (eqb (target_of s l) u)

  -- u is a successor of t
  unfoldable pub follows : ℕ → ℕ → Bool
  follows u t = any (link_count s) (follows_by u t)

  unfoldable pub spent_by : Schedule → ℕ → ℕ → ℕ → Bool
  spent_by σ t k l = either (not (stands σ (source_of s l) k)) (either (placed σ (target_of s l)) (follows (target_of s l) t))

  -- "each successor of each task on k is placed or is a successor of t"
  unfoldable pub spent : Schedule → ℕ → ℕ → Bool
  spent σ t k = all (link_count s) (spent_by σ t k)
