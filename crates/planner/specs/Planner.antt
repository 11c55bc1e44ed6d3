-- The placing steps, the turns, and the bundle of a schedule.
use Rattle.std.specs.Prelude.{ℕ, zero, suc, ◌+◌, Bool, true, not, List, [], ◌∷◌, ◌++◌, ltb, leb, eqb}
use Rattle.std.proofs.Math.Option.{Option, none, some}
use Rattle.folds.specs.Folds.{pick, bit, both, sum, greatest, first, leading, least, listed, gather, or_else, is_some}
use Rattle.folds.specs.Answers.{Answer, value, refused, and_then}
use Rattle.sheet.specs.Sheet.{Sheet, task_count, link_count, work_of, source_of, target_of}
use Rattle.graph.specs.Graph.{read_sheet}
use Rattle.bundle.specs.Bundle.{Command, run, send, receive, Bundle}
use Rattle.bundle.specs.Writing.{bundle_bytes}
use Rattle.planner.specs.Schedule.{Schedule, empty, finish_of, stands, put}
use Rattle.planner.specs.Placing.{ready_arrival, first_ready, end_of, start_on, fits, holds_predecessor, barred, is_open, spent}

-- The guard is a parameter, so that the trial sheets can say what it changes.
module _ (s : Sheet) (guard : Schedule → ℕ → ℕ → Bool) where
  -- 1. "Join: open k that hold a predecessor of t, fit, are not barred, and start t before A. Least start, then the lowest numbered of the admissible processors"
  unfoldable pub may_join : Schedule → ℕ → ℕ → Bool
  may_join σ t k =
      both (both (holds_predecessor s σ t k) (fits s σ t k)) (both (not (guard σ t k)) (ltb (start_on s σ t k) (ready_arrival s σ t)))

  unfoldable pub join : Schedule → ℕ → Option ℕ
  join σ t = least σ.opened (may_join σ t) (start_on s σ t)

  -- 2. "Idle: open k that fit, with end at most A, where each successor of each task on k is placed or is a successor of t. Latest end, then lowest number"
  unfoldable pub may_take : Schedule → ℕ → ℕ → Bool
  may_take σ t k = both (both (is_open s σ k) (fits s σ t k)) (both (leb (end_of s σ k) (ready_arrival s σ t)) (spent s σ t k))

  unfoldable pub idle : Schedule → ℕ → Option ℕ
  idle σ t = leading σ.opened (may_take σ t) (λ a b. ltb (end_of s σ b) (end_of s σ a))

  -- 3. "Open the next processor, if one is left and t fits it alone", and C-20 of document 02: "Step 3 opens, among unopened processors that fit, the one
  -- with least start, then the lowest number"
  unfoldable pub may_open : Schedule → ℕ → ℕ → Bool
  may_open σ t k = both (not (is_open s σ k)) (fits s σ t k)

  unfoldable pub another : Schedule → ℕ → Option ℕ
  another σ t = least s.processors (may_open σ t) (start_on s σ t)

  -- C-17 of document 02: "Where step 3 would open a processor, the lowest numbered open one that fits, isn't barred and starts the task not later than A is
  -- taken instead"
  unfoldable pub may_share : Schedule → ℕ → ℕ → Bool
  may_share σ t k = both (both (is_open s σ k) (fits s σ t k)) (both (not (guard σ t k)) (leb (start_on s σ t k) (ready_arrival s σ t)))

  unfoldable pub share : Schedule → ℕ → Option ℕ
  share σ t = pick (is_some (another σ t)) (first σ.opened (may_share σ t)) none

  -- 4. "Last resort: open k that fit. Least start, then lowest number"
  unfoldable pub may_crowd : Schedule → ℕ → ℕ → Bool
  may_crowd σ t k = both (is_open s σ k) (fits s σ t k)

  unfoldable pub last_resort : Schedule → ℕ → Option ℕ
  last_resort σ t = least σ.opened (may_crowd σ t) (start_on s σ t)

  abbrev pub placed_from : Schedule → ℕ → ℕ → ℕ → Schedule
  placed_from σ t k start = put σ t k start (start + work_of s t)

  -- t on k; 11 at t where no step gives a processor
  abbrev pub place_on : Schedule → ℕ → Option ℕ → Answer Schedule
  place_on σ t none = refused 11 t
  place_on σ t (some k) = value (placed_from σ t k (start_on s σ t k))

  -- Whether C-17 amends the steps is a parameter too: without it they are those of document 01.
  module _ (amended : Bool) where
    unfoldable pub choice : Schedule → ℕ → Option ℕ
    choice σ t = or_else (join σ t) (or_else (idle σ t) (or_else (pick amended (share σ t) none) (or_else (another σ t) (last_resort σ t))))

    abbrev pub place_task : Schedule → Option ℕ → Answer Schedule
    place_task σ none = value σ
    place_task σ (some t) = place_on σ t (choice σ t)

    -- "Each turn takes the first ready task"
    unfoldable pub turn : Schedule → Answer Schedule
    turn σ = place_task σ (first_ready s σ)

    unfoldable pub turns : ℕ → Schedule → Answer Schedule
    turns zero σ = value σ
    turns (suc n) σ = and_then (turn σ) (turns n)

    unfoldable pub planned_by : Answer Schedule
    planned_by = turns (task_count s) (empty s)

-- the schedule of a sheet, or 11
unfoldable pub planned : Sheet → Answer Schedule
planned s = planned_by s (barred s) true

module _ (s : Sheet) where
  -- link l brings a message to t on k, and takes one from t on k
  unfoldable pub brings : Schedule → ℕ → ℕ → ℕ → Bool
  brings σ k t l = both (eqb (target_of s l) t) (not (stands σ (source_of s l) k))

  unfoldable pub takes_away : Schedule → ℕ → ℕ → ℕ → Bool
  takes_away σ k t l = both (eqb (source_of s l) t) (not (stands σ (target_of s l) k))

  unfoldable pub receive_of : Schedule → ℕ → ℕ → ℕ → List Command
  receive_of σ k t l = pick (brings σ k t l) (receive l ∷ []) []

  unfoldable pub send_of : Schedule → ℕ → ℕ → ℕ → List Command
  send_of σ k t l = pick (takes_away σ k t l) (send l ∷ []) []

  -- "receives of its links from other processors in rising link number, run, sends of its links to other processors likewise"
  unfoldable pub block_of : Schedule → ℕ → ℕ → List Command
  block_of σ k t = gather (link_count s) (receive_of σ k t) ++ (run t ∷ gather (link_count s) (send_of σ k t))

  -- the blocks of those of the tasks that stand on k
  unfoldable pub blocks : Schedule → ℕ → List ℕ → List Command
  blocks σ k [] = []
  blocks σ k (t ∷ ts) = pick (stands σ t k) (block_of σ k t) [] ++ blocks σ k ts

  -- "Programmes list tasks in placing order"
  unfoldable pub programme : Schedule → ℕ → List Command
  programme σ k = blocks σ k σ.order

  -- "`PLAN` counts processors that run a task"
  unfoldable pub running : Schedule → ℕ
  running σ = sum s.processors (λ k. bit (is_open s σ k))

  -- "The claim is the latest finish"
  unfoldable pub claim_of : Schedule → ℕ
  claim_of σ = greatest (task_count s) (finish_of σ)

  -- "Numbers skipped below the highest one used are written as empty programmes": where no task stands, no block is
  unfoldable pub bundle_of : Schedule → Bundle
  bundle_of σ = record { programmes = listed σ.opened (programme σ); claim = claim_of σ }

-- the bundle that the planner writes for the bytes of a sheet
unfoldable pub plan : List ℕ → Answer (List ℕ)
plan b = and_then (read_sheet b) (λ s. and_then (planned s) (λ σ. value (bundle_bytes (bundle_of s σ))))
