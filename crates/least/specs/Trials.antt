-- Small sheets, computed from the definition: K1, where the best bundle is not the planner's but claims the same with lower bytes; a sheet that no bundle fits; one that
-- only a bundle with a release fits; one with `55`; a bare board; a seventh task; and `48`.
use Rattle.std.specs.Prelude.{ℕ, Bool, true, false, ◌≡◌, refl, List, [], ◌∷◌}
use Rattle.folds.specs.Folds.{all, any, sum, greatest, first, first_with, listed, gather}
use Rattle.folds.specs.Answers.{value, refused}
use Rattle.sheet.specs.Sheet.{Sheet, Task, Link, task_count, link_count, work_of, store_of, source_of, target_of, cost_of, bytes_of}
use Rattle.sheet.specs.Hops.{link_time}
use Rattle.bundle.specs.Bundle.{run, release, Bundle, programme_count, programme_of}
use Rattle.bundle.specs.Writing.{bundle_bytes}
use Rattle.admission.specs.Counting.{weigh, whole_of, whole, is, in_use, highest}
use Rattle.admission.specs.Releases.{held, right, wrong, wrong_from, wrong_in, at37}
use Rattle.admission.specs.Messages.{not_once, holds, home, before, inside, send_fault, receive_fault, order_fault, message_fault, over_store, at26, at_message, at28}
use Rattle.machine.specs.Machine.{processor_of, stamp_of, next, travels, stated, step_in, step, can_step}
use Rattle.machine.specs.Runs.{clock_of, latest, settle, settled}
use Rattle.checker.specs.Checker.{unfinished, at29, at30, closing, checked}
use Rattle.better.specs.Orders.{by_bytes, by_rank}
use Rattle.better.specs.Ranks.{runs_task, runners}
use Rattle.least.specs.Written.{among, brings_in, takes_in, receive_in, send_in, block_in, blocks_in, programme_in, programmes_in}
use Rattle.least.specs.Ranking.{order, choice}
use Rattle.least.specs.Least.{opens, joins, among_all, extended, completions, candidates, bundle_in, is_value, consider, best_from, best, least_time}

abbrev task : ℕ → ℕ → Task
task w s = record { work = w; store = s }

abbrev link : ℕ → ℕ → ℕ → ℕ → Link
link a b c d = record { source = a; target = b; cost = c; bytes = d }

abbrev board_of : ℕ → ℕ → ℕ → Bool → List Task → List Link → Sheet
board_of p m u c ts ls = record { processors = p; limit = m; unpacking = u; cube = c; tasks = ts; links = ls }

abbrev sheet_of : ℕ → ℕ → List Task → List Link → Sheet
sheet_of p m ts ls = board_of p m 0 false ts ls

-- too much store for one processor: a message of time 1 and its unpacking stand between the works 3 and 2
abbrev apart : ℕ → Bool → Sheet
apart u c = board_of 2 100 u c (task 3 60 ∷ task 2 60 ∷ []) (link 0 1 1 4 ∷ [])

abbrev three : ℕ → Sheet
three m = sheet_of 2 m (task 3 10 ∷ task 2 10 ∷ task 2 10 ∷ []) (link 0 1 1 4 ∷ [])

abbrev k1 : Sheet
k1 = sheet_of 3 100 (task 1 10 ∷ task 3 10 ∷ task 2 10 ∷ task 2 10 ∷ []) (link 3 2 1 4 ∷ link 3 1 2 4 ∷ link 0 1 1 4 ∷ [])

-- room for one result at a time
abbrev tight : Sheet
tight = sheet_of 1 10 (task 1 10 ∷ task 1 10 ∷ []) []

abbrev freeing : Bundle
freeing = record { programmes = (run 0 ∷ release 0 ∷ run 1 ∷ []) ∷ []; claim = 2 }

pub record Trials : Type 0 where
  pub of_three : least_time (three 100) ≡ value (0x50 ∷ 0 ∷ 0x52 ∷ 0 ∷ 0x52 ∷ 1 ∷ 0x50 ∷ 1 ∷ 0x52 ∷ 2 ∷ 0x5A ∷ 5 ∷ 0 ∷ 0 ∷ 0 ∷ [])
  pub none_fits : least_time (three 13) ≡ refused 11 2
  -- a bundle with a release may be accepted where none without is
  pub only_freeing : (least_time tight ≡ refused 11 1) × (is_value (checked tight freeing) ≡ true)
  pub of_k1 :
      least_time k1 ≡
      value
      (0x50 ∷ 0 ∷ 0x52 ∷ 0 ∷ 0x53 ∷ 2 ∷ 0 ∷ 0x56 ∷ 0 ∷ 0 ∷ 0x52 ∷ 2 ∷
      0x50 ∷ 1 ∷ 0x52 ∷ 3 ∷ 0x53 ∷ 0 ∷ 0 ∷ 0x56 ∷ 2 ∷ 0 ∷ 0x52 ∷ 1 ∷ 0x5A ∷ 5 ∷ 0 ∷ 0 ∷ 0 ∷ [])
  pub of_unpacking :
      least_time (apart 4 false) ≡ value (0x50 ∷ 0 ∷ 0x52 ∷ 0 ∷ 0x53 ∷ 0 ∷ 0 ∷ 0x50 ∷ 1 ∷ 0x56 ∷ 0 ∷ 0 ∷ 0x52 ∷ 1 ∷ 0x5A ∷ 10 ∷ 0 ∷ 0 ∷ 0 ∷ [])
  -- the plan of a bare board, seven tasks, and cubes
  pub of_none : least_time (sheet_of 4 0 [] []) ≡ value (0x5A ∷ 0 ∷ 0 ∷ 0 ∷ 0 ∷ [])
  pub of_seven : least_time (sheet_of 1 0 (task 1 0 ∷ task 1 0 ∷ task 1 0 ∷ task 1 0 ∷ task 1 0 ∷ task 1 0 ∷ task 1 0 ∷ []) []) ≡ refused 38 7
  pub of_cube : least_time (apart 0 true) ≡ refused 38 2
  pub of_bare_cube : least_time (board_of 4 0 0 true [] []) ≡ refused 38 0

pub trials : Trials
unfolding all any sum greatest first first_with listed gather task_count link_count work_of store_of source_of target_of cost_of bytes_of programme_count programme_of bundle_bytes weigh whole_of whole is in_use highest held right wrong wrong_from wrong_in at37 not_once holds home before inside send_fault receive_fault order_fault message_fault over_store at26 at_message at28 processor_of stamp_of next link_time travels stated step_in step can_step clock_of latest settle settled unfinished at29 at30 closing checked by_bytes by_rank runs_task runners among brings_in takes_in receive_in send_in block_in blocks_in programme_in programmes_in order choice opens joins among_all extended completions candidates bundle_in consider best_from best least_time
trials = record { of_three = refl; none_fits = refl; only_freeing = (refl, refl); of_k1 = refl; of_unpacking = refl; of_none = refl; of_seven = refl; of_cube = refl; of_bare_cube = refl }
