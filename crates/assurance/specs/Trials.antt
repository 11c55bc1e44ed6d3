-- The starred trial sheets of document 01, K1 to K8, a bare board, boards with an unpacking time and wired as a cube, releases, drifts and choices between two bundles, as one statement about the definitions, which compute them.
use Rattle.std.specs.Prelude.{ℕ, Bool, true, false, ◌≡◌, refl, List, [], ◌∷◌, ◌++◌}
use Rattle.std.proofs.Math.Option.{Option, none, some}
use Rattle.folds.specs.Folds.{all, any, sum, greatest, first, first_with, leading, least, listed, gather}
use Rattle.folds.specs.Answers.{Answer, value, refused, and_then}
use Rattle.numbers.specs.Number.{number_at}
use Rattle.commands.specs.Commands.{judge, read_from, read_all}
use Rattle.sheet.specs.Sheet.{Sheet, Task, Link, task_count, link_count, work_of, store_of, source_of, target_of, cost_of, bytes_of}
use Rattle.sheet.specs.Format.{joins_by, joins, read_form}
use Rattle.sheet.specs.Hops.{link_time}
use Rattle.sheet.specs.Writing.{board_bytes, task_bytes, link_bytes, sheet_bytes}
use Rattle.graph.specs.Graph.{reaches_by, reaches, on_circle, circle, level_by, level_within, level, read_sheet}
use Rattle.bundle.specs.Bundle.{run, send, receive, Bundle, programme_count, programme_of}
use Rattle.bundle.specs.Format.{read_bundle}
use Rattle.bundle.specs.Format as bundles
use Rattle.sheet.specs.Format as sheets
use Rattle.bundle.specs.Writing.{bundle_bytes}
use Rattle.admission.specs.Counting.{weigh, whole_of, whole, is, in_use, highest}
use Rattle.admission.specs.Releases.{held, right, wrong, wrong_from, wrong_in, at37}
use Rattle.admission.specs.Messages.{not_once, holds, home, before, inside, send_fault, receive_fault, order_fault, message_fault, over_store, at26, at_message, at28}
use Rattle.machine.specs.Machine.{processor_of, stamp_of, next, travels, stated, step_in, step, can_step}
use Rattle.machine.specs.Runs.{clock_of, latest, settle, settled}
use Rattle.checker.specs.Checker.{unfinished, at29, at30, closing, checked, check}
use Rattle.releasing.specs.Releasing.{right_at, earliest, due_at, releases_at, released, releasing, passed}
use Rattle.releasing.specs.Passing.{passed_bytes, pass}
use Rattle.drift.specs.Drift.{raise, finishing, leaves, drift_of}
use Rattle.drift.specs.Reporting.{drift_bytes, reported_bytes, report}
use Rattle.checker.specs.Verdicts.{checked_bytes}
use Rattle.better.specs.Orders.{by_bytes, by_rank}
use Rattle.better.specs.Ranks.{runs_task, runners, rank_of}
use Rattle.better.specs.Choices.{firstLent, secondLent, better}
use Rattle.planner.specs.Schedule.{Schedule, empty, place_of, start_of, finish_of, placed, stands}
use Rattle.planner.specs.Placing.{comes, lacks, satisfied, ready, partly_ready, arrival_by, arrival, priority, unpacked, ready_arrival, ready_priority, ahead_by, first_ready, first_partly_ready, end_by, end_of, start_by, start_from, elsewhere, near_by, start_on, store_by, bytes_by, store_on, fits, holds_by, holds_predecessor, start_with, best_start, ends_with, delays, barred, is_open, follows_by, follows, spent_by, spent}
use Rattle.planner.specs.Planner.{may_join, join, may_take, idle, may_open, another, may_share, share, may_crowd, last_resort, choice, turn, turns, planned_by, planned, brings, takes_away, receive_of, send_of, block_of, blocks, programme, running, claim_of, bundle_of, plan}
use Rattle.planner.specs.Amended.{planned_before}
use Rattle.listing.specs.Listing.{decimal_within, decimal, plan_line, task_line, refusal_line, schedule_lines, listing}

abbrev task : ℕ → ℕ → Task
task w s = record { work = w; store = s }

abbrev link : ℕ → ℕ → ℕ → ℕ → Link
link a b c d = record { source = a; target = b; cost = c; bytes = d }

-- K1's graph on p processors of store limit m, with work w for task 2
abbrev pub sheet_k : ℕ → ℕ → ℕ → Sheet
sheet_k p m w =
    record { processors = p; limit = m; unpacking = 0; cube = false; tasks = task 1 10 ∷ task 3 10 ∷ task w 10 ∷ task 2 10 ∷ []; links = link 3 2 1 4 ∷ link 3 1 2 4 ∷ link 0 1 1 4 ∷ [] }

abbrev pub k1 : Sheet
k1 = sheet_k 3 100 2

-- K1's bundle with this claim
abbrev pub bundle_k : ℕ → List ℕ
bundle_k c =
    0x50 ∷ 0x00 ∷ 0x52 ∷ 0x03 ∷ 0x53 ∷ 0x00 ∷ 0x00 ∷ 0x56 ∷ 0x02 ∷ 0x00 ∷ 0x52 ∷ 0x01 ∷
    0x50 ∷ 0x01 ∷ 0x52 ∷ 0x00 ∷ 0x53 ∷ 0x02 ∷ 0x00 ∷ 0x56 ∷ 0x00 ∷ 0x00 ∷ 0x52 ∷ 0x02 ∷
    0x5A ∷ c ∷ 0x00 ∷ 0x00 ∷ 0x00 ∷ []

-- K1's bundle with its releases: behind task 1's run the results of 1 and of 3, which both read last, and the message of link 2; the result of 0 behind its send
abbrev pub passed_k : List ℕ
passed_k =
    0x50 ∷ 0x00 ∷ 0x52 ∷ 0x03 ∷ 0x53 ∷ 0x00 ∷ 0x00 ∷ 0x56 ∷ 0x02 ∷ 0x00 ∷ 0x52 ∷ 0x01 ∷ 0x46 ∷ 0x01 ∷ 0x46 ∷ 0x03 ∷ 0x47 ∷ 0x02 ∷ 0x00 ∷
    0x50 ∷ 0x01 ∷ 0x52 ∷ 0x00 ∷ 0x53 ∷ 0x02 ∷ 0x00 ∷ 0x46 ∷ 0x00 ∷ 0x56 ∷ 0x00 ∷ 0x00 ∷ 0x52 ∷ 0x02 ∷ 0x46 ∷ 0x02 ∷ 0x47 ∷ 0x00 ∷ 0x00 ∷
    0x5A ∷ 0x05 ∷ 0x00 ∷ 0x00 ∷ 0x00 ∷ []

-- K1's bundle with the result of 3 released before it is sent and read
abbrev pub hasty_k : List ℕ
hasty_k =
    0x50 ∷ 0x00 ∷ 0x52 ∷ 0x03 ∷ 0x46 ∷ 0x03 ∷ 0x53 ∷ 0x00 ∷ 0x00 ∷ 0x56 ∷ 0x02 ∷ 0x00 ∷ 0x52 ∷ 0x01 ∷
    0x50 ∷ 0x01 ∷ 0x52 ∷ 0x00 ∷ 0x53 ∷ 0x02 ∷ 0x00 ∷ 0x56 ∷ 0x00 ∷ 0x00 ∷ 0x52 ∷ 0x02 ∷
    0x5A ∷ 0x05 ∷ 0x00 ∷ 0x00 ∷ 0x00 ∷ []

-- "PLAN 2 5", "0 1 0 1", "1 0 2 5", "2 1 3 5", "3 0 0 2"
abbrev pub listing_k : List ℕ
listing_k =
    0x50 ∷ 0x4C ∷ 0x41 ∷ 0x4E ∷ 0x20 ∷ 0x32 ∷ 0x20 ∷ 0x35 ∷ 0x0A ∷
    0x30 ∷ 0x20 ∷ 0x31 ∷ 0x20 ∷ 0x30 ∷ 0x20 ∷ 0x31 ∷ 0x0A ∷
    0x31 ∷ 0x20 ∷ 0x30 ∷ 0x20 ∷ 0x32 ∷ 0x20 ∷ 0x35 ∷ 0x0A ∷
    0x32 ∷ 0x20 ∷ 0x31 ∷ 0x20 ∷ 0x33 ∷ 0x20 ∷ 0x35 ∷ 0x0A ∷
    0x33 ∷ 0x20 ∷ 0x30 ∷ 0x20 ∷ 0x30 ∷ 0x20 ∷ 0x32 ∷ 0x0A ∷ []

-- the bytes of K1's graph on p processors of store limit m, with work w for task 2
abbrev pub bytes_k : ℕ → ℕ → ℕ → List ℕ
bytes_k p m w = sheet_bytes (sheet_k p m w)

-- from the bytes of a sheet: its levels, its schedule, and the claim of that schedule; the schedule is made with a guard, and one by the steps of document 01
abbrev levels : List ℕ → Answer (List ℕ)
levels b = and_then (read_sheet b) (λ s. value (listed (task_count s) (level s)))

abbrev schedule_by : (Sheet → Schedule → ℕ → ℕ → Bool) → List ℕ → Answer Schedule
schedule_by guard b = and_then (read_sheet b) (λ s. planned_by s (guard s) true)

abbrev claim_by : (Sheet → Schedule → ℕ → ℕ → Bool) → List ℕ → Answer ℕ
claim_by guard b = and_then (read_sheet b) (λ s. and_then (planned_by s (guard s) true) (λ σ. value (claim_of s σ)))

abbrev schedule_before : List ℕ → Answer Schedule
schedule_before b = and_then (read_sheet b) (λ s. planned_before s)

abbrev barred_next : Sheet → Schedule → Option ℕ → ℕ → Bool
barred_next s σ none k = false
barred_next s σ (some t) k = barred s σ t k

-- after the first turn: the task of the second, and whether the guard bars it from processor k
abbrev second : List ℕ → ℕ → Answer (Option ℕ × Bool)
second b k = and_then (read_sheet b) (λ s. and_then (turn s (barred s) true (empty s)) (λ σ. value (first_ready s σ, barred_next s σ (first_ready s σ) k)))

abbrev unguarded : Sheet → Schedule → ℕ → ℕ → Bool
unguarded s σ t k = false

abbrev pub k5 : Sheet
k5 = record { processors = 2; limit = 6; unpacking = 0; cube = false; tasks = task 1 3 ∷ task 1 3 ∷ task 1 2 ∷ task 1 2 ∷ task 1 2 ∷ []; links = [] }

abbrev pub bundle_k5 : Bundle
bundle_k5 = record { programmes = (run 0 ∷ run 1 ∷ []) ∷ (run 2 ∷ run 3 ∷ run 4 ∷ []) ∷ []; claim = 3 }

abbrev pub k6 : Sheet
k6 = record { processors = 2; limit = 0; unpacking = 0; cube = false; tasks = task 1 0 ∷ task 1 0 ∷ task 1 0 ∷ task 1 0 ∷ []; links = link 0 1 0 0 ∷ link 2 3 0 0 ∷ [] }

abbrev pub bundle_k6 : Bundle
bundle_k6 =
    record { programmes = (receive 1 ∷ run 3 ∷ run 0 ∷ send 0 ∷ []) ∷ (receive 0 ∷ run 1 ∷ run 2 ∷ send 1 ∷ []) ∷ []; claim = 3 }

abbrev pub k8 : List Link → Sheet
k8 ls = record { processors = 2; limit = 0; unpacking = 0; cube = false; tasks = task 1 0 ∷ task 1 0 ∷ task 1 0 ∷ []; links = ls }

-- the smallest sheet that C-17 changes: "two tasks joined by a link of cost 0"
abbrev pub free_link : Sheet
free_link = record { processors = 2; limit = 0; unpacking = 0; cube = false; tasks = task 1 0 ∷ task 1 0 ∷ []; links = link 0 1 0 0 ∷ [] }

-- a board with no jobs yet, its plan, and "PLAN 0 0"
abbrev pub bare : Sheet
bare = record { processors = 2; limit = 0; unpacking = 0; cube = false; tasks = []; links = [] }

abbrev pub bundle_bare : ℕ → List ℕ
bundle_bare c = 0x5A ∷ c ∷ 0x00 ∷ 0x00 ∷ 0x00 ∷ []

abbrev pub listing_bare : List ℕ
listing_bare = 0x50 ∷ 0x4C ∷ 0x41 ∷ 0x4E ∷ 0x20 ∷ 0x30 ∷ 0x20 ∷ 0x30 ∷ 0x0A ∷ []

-- K1's graph on a board that unpacks a message in u; and K1's bytes without their end, up to the tasks and up to the links, before others
abbrev pub timed_k : ℕ → Sheet
timed_k u = record { processors = 3; limit = 100; unpacking = u; cube = false; tasks = k1.tasks; links = k1.links }

abbrev pub behind_tasks : List ℕ → List ℕ
behind_tasks b = board_bytes 3 100 0 false ++ (task_bytes k1.tasks ++ b)

abbrev pub behind_links : List ℕ → List ℕ
behind_links b = behind_tasks (link_bytes k1.links ++ b)

-- the same on a cube
abbrev pub cube_k : ℕ → Sheet
cube_k u = record { processors = 3; limit = 100; unpacking = u; cube = true; tasks = k1.tasks; links = k1.links }

-- K1's tasks on one processor, in the order of K2; and two tasks with a free link between them, on one processor, behind an empty programme, and on two
abbrev pub alone_k : List ℕ
alone_k = 0x50 ∷ 0 ∷ 0x52 ∷ 3 ∷ 0x52 ∷ 0 ∷ 0x52 ∷ 1 ∷ 0x52 ∷ 2 ∷ 0x5A ∷ 8 ∷ 0 ∷ 0 ∷ 0 ∷ []

abbrev pub two : Sheet
two = record { processors = 3; limit = 0; unpacking = 0; cube = false; tasks = task 1 0 ∷ task 1 0 ∷ []; links = link 0 1 0 0 ∷ [] }

abbrev pub together : List ℕ
together = 0x50 ∷ 0 ∷ 0x52 ∷ 0 ∷ 0x52 ∷ 1 ∷ 0x5A ∷ 2 ∷ 0 ∷ 0 ∷ 0 ∷ []

abbrev pub behind_empty : List ℕ
behind_empty = 0x50 ∷ 0 ∷ 0x50 ∷ 1 ∷ 0x52 ∷ 0 ∷ 0x52 ∷ 1 ∷ 0x5A ∷ 2 ∷ 0 ∷ 0 ∷ 0 ∷ []

abbrev pub apart : List ℕ
apart = 0x50 ∷ 0 ∷ 0x50 ∷ 1 ∷ 0x52 ∷ 0 ∷ 0x53 ∷ 0 ∷ 0 ∷ 0x50 ∷ 2 ∷ 0x56 ∷ 0 ∷ 0 ∷ 0x52 ∷ 1 ∷ 0x5A ∷ 2 ∷ 0 ∷ 0 ∷ 0 ∷ []

pub record Trials : Type 0 where
  pub k1_read : read_sheet (sheet_bytes k1) ≡ value k1
  pub k1_levels : levels (sheet_bytes k1) ≡ value (5 ∷ 3 ∷ 2 ∷ 7 ∷ [])
  pub k1_bundle : plan (sheet_bytes k1) ≡ value (bundle_k 5)
  pub k1_accepted : and_then (check (sheet_bytes k1) (bundle_k 5)) (λ b. value b.claim) ≡ value 5
  pub k1_listing : listing (sheet_bytes k1) ≡ listing_k
  -- tasks 3, 0, 1, 2 start at 0, 2, 3, 6; claim 8
  pub k2 : schedule_by barred (bytes_k 1 100 2) ≡ value (record { on = 0 ∷ 0 ∷ 0 ∷ 0 ∷ []; start = 2 ∷ 3 ∷ 6 ∷ 0 ∷ []; finish = 3 ∷ 6 ∷ 8 ∷ 2 ∷ []; order = 3 ∷ 0 ∷ 1 ∷ 2 ∷ []; opened = 1 })
  pub k2_claim : claim_by barred (bytes_k 1 100 2) ≡ value 8
  -- "the guard bars processor 0": task 2 comes second, and is barred from the processor of task 3; it goes on 1 at 3, task 0 on 2, claim 6. "Without it, 7"
  pub k3_barred : second (bytes_k 3 100 3) 0 ≡ value (some 2, true)
  pub k3 : schedule_by barred (bytes_k 3 100 3) ≡ value (record { on = 2 ∷ 0 ∷ 1 ∷ 0 ∷ []; start = 0 ∷ 2 ∷ 3 ∷ 0 ∷ []; finish = 1 ∷ 5 ∷ 6 ∷ 2 ∷ []; order = 3 ∷ 2 ∷ 0 ∷ 1 ∷ []; opened = 3 })
  pub k3_claim : claim_by barred (bytes_k 3 100 3) ≡ value 6
  pub k3_unguarded : claim_by unguarded (bytes_k 3 100 3) ≡ value 7
  -- M 24: as K1. M 23: task 1 on processor 2 at 4, task 2 on 0 at 2, claim 7
  pub k4_24 : plan (bytes_k 3 24 2) ≡ value (bundle_k 5)
  pub k4_23 : schedule_by barred (bytes_k 3 23 2) ≡ value (record { on = 1 ∷ 2 ∷ 0 ∷ 0 ∷ []; start = 0 ∷ 4 ∷ 2 ∷ 0 ∷ []; finish = 1 ∷ 7 ∷ 4 ∷ 2 ∷ []; order = 3 ∷ 0 ∷ 1 ∷ 2 ∷ []; opened = 3 })
  pub k4_23_claim : claim_by barred (bytes_k 3 23 2) ≡ value 7
  pub k5_refused : plan (sheet_bytes k5) ≡ refused 11 4
  pub k5_accepted : check (sheet_bytes k5) (bundle_bytes bundle_k5) ≡ value bundle_k5
  -- on one processor its stores pass M together, and never do where each result is given back
  pub k5_kept : check (sheet_bytes k5) (0x50 ∷ 0 ∷ 0x52 ∷ 0 ∷ 0x52 ∷ 1 ∷ 0x52 ∷ 2 ∷ 0x52 ∷ 3 ∷ 0x52 ∷ 4 ∷ 0x5A ∷ 5 ∷ 0 ∷ 0 ∷ 0 ∷ []) ≡ refused 28 0
  pub k5_given_back :
      and_then (check (sheet_bytes k5) (0x50 ∷ 0 ∷ 0x52 ∷ 0 ∷ 0x46 ∷ 0 ∷ 0x52 ∷ 1 ∷ 0x46 ∷ 1 ∷ 0x52 ∷ 2 ∷ 0x52 ∷ 3 ∷ 0x52 ∷ 4 ∷ 0x5A ∷ 5 ∷ 0 ∷ 0 ∷ 0 ∷ [])) (λ b. value b.claim) ≡ value 5
  -- K1's plan is passed, and comes out of a second pass as it went in; a hasty release is refused at its offset
  pub k1_passed : pass (sheet_bytes k1) (bundle_k 5) ≡ value passed_k
  pub k1_twice : pass (sheet_bytes k1) passed_k ≡ value passed_k
  pub k1_hasty : check (sheet_bytes k1) hasty_k ≡ refused 37 4
  -- no work of K1's plan may grow; of K3's those of tasks 0 and 1 may, by 1, and so may they where the plan gives back store; a wrong claim is refused
  pub k1_drift : report (sheet_bytes k1) (bundle_k 5) ≡ value (0 ∷ 0 ∷ 0 ∷ 0 ∷ 0 ∷ 0 ∷ 0 ∷ 0 ∷ 0 ∷ 0 ∷ 0 ∷ 0 ∷ 0 ∷ 0 ∷ 0 ∷ 0 ∷ [])
  pub k1_drift_claim : report (sheet_bytes k1) (bundle_k 6) ≡ refused 30 5
  pub k3_drift : and_then (plan (bytes_k 3 100 3)) (report (bytes_k 3 100 3)) ≡ value (1 ∷ 0 ∷ 0 ∷ 0 ∷ 1 ∷ 0 ∷ 0 ∷ 0 ∷ 0 ∷ 0 ∷ 0 ∷ 0 ∷ 0 ∷ 0 ∷ 0 ∷ 0 ∷ [])
  pub k3_drift_passed :
      and_then (and_then (plan (bytes_k 3 100 3)) (pass (bytes_k 3 100 3))) (report (bytes_k 3 100 3)) ≡ value (1 ∷ 0 ∷ 0 ∷ 0 ∷ 1 ∷ 0 ∷ 0 ∷ 0 ∷ 0 ∷ 0 ∷ 0 ∷ 0 ∷ 0 ∷ 0 ∷ 0 ∷ 0 ∷ [])
  -- "K1 to K5 don't change": the steps of document 01 give the same
  pub k1_same : schedule_before (sheet_bytes k1) ≡ schedule_by barred (sheet_bytes k1)
  pub k2_same : schedule_before (bytes_k 1 100 2) ≡ schedule_by barred (bytes_k 1 100 2)
  pub k3_same : schedule_before (bytes_k 3 100 3) ≡ schedule_by barred (bytes_k 3 100 3)
  pub k4_24_same : schedule_before (bytes_k 3 24 2) ≡ schedule_by barred (bytes_k 3 24 2)
  pub k4_23_same : schedule_before (bytes_k 3 23 2) ≡ schedule_by barred (bytes_k 3 23 2)
  pub k5_same : schedule_before (sheet_bytes k5) ≡ schedule_by barred (sheet_bytes k5)
  -- "formerly on two processors, now on one with the same claim"
  pub free_before : schedule_before (sheet_bytes free_link) ≡ value (record { on = 0 ∷ 1 ∷ []; start = 0 ∷ 1 ∷ []; finish = 1 ∷ 2 ∷ []; order = 0 ∷ 1 ∷ []; opened = 2 })
  pub free_now : schedule_by barred (sheet_bytes free_link) ≡ value (record { on = 0 ∷ 0 ∷ []; start = 0 ∷ 1 ∷ []; finish = 1 ∷ 2 ∷ []; order = 0 ∷ 1 ∷ []; opened = 1 })
  -- 55 is written, read and levelled; the levels are K1's
  pub timed_written : sheet_bytes (record { processors = 2; limit = 0; unpacking = 258; cube = false; tasks = []; links = [] }) ≡ 0x4D ∷ 2 ∷ 0 ∷ 0 ∷ 0 ∷ 0 ∷ 0x55 ∷ 2 ∷ 1 ∷ 0x51 ∷ []
  pub timed_read : read_sheet (sheet_bytes (timed_k 258)) ≡ value (timed_k 258)
  pub timed_most : read_sheet (sheet_bytes (timed_k 65535)) ≡ value (timed_k 65535)
  pub timed_levels : levels (sheet_bytes (timed_k 258)) ≡ value (5 ∷ 3 ∷ 2 ∷ 7 ∷ [])
  -- "a value of 0 gives 6, a wrong position gives 3", which comes before 1 and 6: first of all, a second time, behind a task and behind a link
  pub timed_zero : read_sheet (board_bytes 3 100 0 false ++ 0x55 ∷ 0 ∷ 0 ∷ 0x51 ∷ []) ≡ refused 6 6
  pub timed_cut : read_sheet (board_bytes 3 100 0 false ++ 0x55 ∷ 0 ∷ []) ≡ refused 1 6
  pub timed_first : read_sheet (0x55 ∷ 1 ∷ []) ≡ refused 3 0
  pub timed_twice : read_sheet (board_bytes 3 100 1 false ++ 0x55 ∷ 0 ∷ 0 ∷ []) ≡ refused 3 9
  pub timed_behind_task : read_sheet (behind_tasks (0x55 ∷ 1 ∷ 0 ∷ 0x51 ∷ [])) ≡ refused 3 26
  pub timed_behind_link : read_sheet (behind_links (0x55 ∷ [])) ≡ refused 3 47
  -- 48 is written behind the board, or behind the 55, read and levelled
  pub cube_written : sheet_bytes (record { processors = 2; limit = 0; unpacking = 0; cube = true; tasks = []; links = [] }) ≡ 0x4D ∷ 2 ∷ 0 ∷ 0 ∷ 0 ∷ 0 ∷ 0x48 ∷ 0x51 ∷ []
  pub cube_timed_written : sheet_bytes (record { processors = 2; limit = 0; unpacking = 258; cube = true; tasks = []; links = [] }) ≡ 0x4D ∷ 2 ∷ 0 ∷ 0 ∷ 0 ∷ 0 ∷ 0x55 ∷ 2 ∷ 1 ∷ 0x48 ∷ 0x51 ∷ []
  pub cube_read : read_sheet (sheet_bytes (cube_k 0)) ≡ value (cube_k 0)
  pub cube_timed_read : read_sheet (sheet_bytes (cube_k 258)) ≡ value (cube_k 258)
  pub cube_levels : levels (sheet_bytes (cube_k 258)) ≡ value (5 ∷ 3 ∷ 2 ∷ 7 ∷ [])
  -- "elsewhere it gives 3": first of all, a second time, behind a task and behind a link; and so does a 55 behind it
  pub cube_first : read_sheet (0x48 ∷ []) ≡ refused 3 0
  pub cube_twice : read_sheet (board_bytes 3 100 0 true ++ 0x48 ∷ 0x51 ∷ []) ≡ refused 3 7
  pub cube_behind_task : read_sheet (behind_tasks (0x48 ∷ 0x51 ∷ [])) ≡ refused 3 26
  pub cube_behind_link : read_sheet (behind_links (0x48 ∷ [])) ≡ refused 3 47
  pub timed_behind_cube : read_sheet (board_bytes 3 100 0 true ++ 0x55 ∷ 1 ∷ 0 ∷ 0x51 ∷ []) ≡ refused 3 7
  pub k6_stuck : check (sheet_bytes k6) (bundle_bytes bundle_k6) ≡ refused 29 0
  pub k7_claim : check (sheet_bytes k1) (bundle_k 6) ≡ refused 30 5
  pub k8_self : read_sheet (sheet_bytes (k8 (link 0 0 0 0 ∷ []))) ≡ refused 10 0
  pub k8_circle : read_sheet (sheet_bytes (k8 (link 0 1 0 0 ∷ link 1 2 0 0 ∷ link 2 1 0 0 ∷ []))) ≡ refused 10 1
  pub bare_read : read_sheet (sheet_bytes bare) ≡ value bare
  pub bare_levels : levels (sheet_bytes bare) ≡ value []
  pub bare_bundle : plan (sheet_bytes bare) ≡ value (bundle_bare 0)
  pub bare_listing : listing (sheet_bytes bare) ≡ listing_bare
  pub bare_accepted : check (sheet_bytes bare) (bundle_bare 0) ≡ value (record { programmes = []; claim = 0 })
  pub bare_drift : report (sheet_bytes bare) (bundle_bare 0) ≡ value []
  -- as many empty programmes as processors, and one more
  pub bare_idle : check (sheet_bytes bare) (0x50 ∷ 0 ∷ 0x50 ∷ 1 ∷ bundle_bare 0) ≡ value (record { programmes = [] ∷ [] ∷ []; claim = 0 })
  pub bare_crowded : check (sheet_bytes bare) (0x50 ∷ 0 ∷ 0x50 ∷ 1 ∷ 0x50 ∷ 2 ∷ bundle_bare 0) ≡ refused 23 4
  pub bare_claim : check (sheet_bytes bare) (bundle_bare 1) ≡ refused 30 0
  pub bare_cut : check (sheet_bytes bare) (0x5A ∷ []) ≡ refused 21 0
  pub bare_run : check (sheet_bytes bare) (0x52 ∷ 0 ∷ bundle_bare 0) ≡ refused 23 0
  pub bare_send : check (sheet_bytes bare) (0x53 ∷ 0 ∷ 0 ∷ bundle_bare 0) ≡ refused 23 0
  pub bare_receive : check (sheet_bytes bare) (0x56 ∷ 0 ∷ 0 ∷ bundle_bare 0) ≡ refused 23 0
  pub bare_tail : check (sheet_bytes bare) (0x5A ∷ 0 ∷ 0 ∷ 0 ∷ 0 ∷ 0 ∷ []) ≡ refused 24 5
  -- on a sheet with tasks a claim has a programme before it
  pub claim_first : check (sheet_bytes k1) (bundle_bare 0) ≡ refused 23 0
  -- the better of two bundles: accepted before refused, also where the refused one claims less; the smaller claim; of equals the first; 34
  pub better_accepted : better (sheet_bytes k1) (bundle_k 6) alone_k ≡ value secondLent
  pub better_claim : better (sheet_bytes k1) alone_k (bundle_k 5) ≡ value secondLent
  pub better_equal : better (sheet_bytes k1) (bundle_k 5) (bundle_k 5) ≡ value firstLent
  pub better_neither : better (sheet_bytes k1) (bundle_k 6) [] ≡ refused 34 0
  -- fewer processors that run a task, though the other's bytes are lower; an empty programme does not count, and then the bytes decide
  pub better_runners : better (sheet_bytes two) apart together ≡ value secondLent
  pub better_bytes : better (sheet_bytes two) together behind_empty ≡ value secondLent
  pub better_bare : better (sheet_bytes bare) (bundle_bare 0) (0x50 ∷ 0 ∷ bundle_bare 0) ≡ value secondLent

pub trials : Trials
unfolding all any sum greatest first leading least listed gather number_at judge read_from read_all task_count link_count work_of store_of source_of target_of cost_of bytes_of joins_by joins read_form sheet_bytes reaches_by reaches on_circle circle level_by level_within level read_sheet programme_count programme_of read_bundle bundle_bytes weigh whole_of whole is in_use highest held right wrong wrong_from wrong_in at37 right_at earliest due_at releases_at released releasing passed passed_bytes pass raise finishing leaves drift_of drift_bytes checked_bytes reported_bytes report not_once holds home before inside send_fault receive_fault order_fault message_fault over_store at26 at_message at28 first_with processor_of stamp_of next link_time travels stated step_in step can_step clock_of latest settle settled unfinished at29 at30 closing checked check place_of start_of finish_of placed stands comes lacks satisfied ready partly_ready arrival_by arrival priority unpacked ready_arrival ready_priority ahead_by first_ready first_partly_ready end_by end_of start_by start_from elsewhere near_by start_on store_by bytes_by store_on fits holds_by holds_predecessor start_with best_start ends_with delays barred is_open follows_by follows spent_by spent may_join join may_take idle may_open another may_share share may_crowd last_resort choice turn turns planned_by planned planned_before brings takes_away receive_of send_of block_of blocks programme running claim_of bundle_of plan decimal_within decimal plan_line task_line refusal_line schedule_lines listing sheets.fault sheets.ended bundles.fault bundles.ended by_bytes by_rank runs_task runners rank_of better
trials =
    record {
      k1_read = refl;
      k1_levels = refl;
      k1_bundle = refl;
      k1_accepted = refl;
      k1_listing = refl;
      k2 = refl;
      k2_claim = refl;
      k3_barred = refl;
      k3 = refl;
      k3_claim = refl;
      k3_unguarded = refl;
      k4_24 = refl;
      k4_23 = refl;
      k4_23_claim = refl;
      k5_refused = refl;
      k5_accepted = refl;
      k5_kept = refl;
      k5_given_back = refl;
      k1_passed = refl;
      k1_twice = refl;
      k1_hasty = refl;
      k1_drift = refl;
      k1_drift_claim = refl;
      k3_drift = refl;
      k3_drift_passed = refl;
      k1_same = refl;
      k2_same = refl;
      k3_same = refl;
      k4_24_same = refl;
      k4_23_same = refl;
      k5_same = refl;
      free_before = refl;
      free_now = refl;
      timed_written = refl;
      timed_read = refl;
      timed_most = refl;
      timed_levels = refl;
      timed_zero = refl;
      timed_cut = refl;
      timed_first = refl;
      timed_twice = refl;
      timed_behind_task = refl;
      timed_behind_link = refl;
      cube_written = refl;
      cube_timed_written = refl;
      cube_read = refl;
      cube_timed_read = refl;
      cube_levels = refl;
      cube_first = refl;
      cube_twice = refl;
      cube_behind_task = refl;
      cube_behind_link = refl;
      timed_behind_cube = refl;
      k6_stuck = refl;
      k7_claim = refl;
      k8_self = refl;
      k8_circle = refl;
      bare_read = refl;
      bare_levels = refl;
      bare_bundle = refl;
      bare_listing = refl;
      bare_accepted = refl;
      bare_drift = refl;
      bare_idle = refl;
      bare_crowded = refl;
      bare_claim = refl;
      bare_cut = refl;
      bare_run = refl;
      bare_send = refl;
      bare_receive = refl;
      bare_tail = refl;
      claim_first = refl;
      better_accepted = refl;
      better_claim = refl;
      better_equal = refl;
      better_neither = refl;
      better_runners = refl;
      better_bytes = refl;
      better_bare = refl;
    }
