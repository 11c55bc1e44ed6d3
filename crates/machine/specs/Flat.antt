-- The machine before C-20 of document 02: a message takes its cost, wherever its target runs.
use Rattle.std.specs.Prelude.{ℕ, zero, suc, List, [], ◌∷◌}
use Rattle.std.proofs.Math.Option.{Option}
use Rattle.folds.specs.Folds.{first, then}
use Rattle.sheet.specs.Sheet.{Sheet, work_of, cost_of}
use Rattle.bundle.specs.Bundle.{Command, run, send, receive, release, discard, Bundle, programme_count}
use Rattle.admission.specs.Counting.{whole, each}
use Rattle.machine.specs.Machine.{State, fresh_state, step_in, holds_some}
use Rattle.machine.specs.Runs.{Run, took, fresh_run, onwards}

unfoldable pub stated_flat : Sheet → ℕ → Command → ℕ
stated_flat s k (run t) = work_of s t
stated_flat s k (send l) = cost_of s l
stated_flat s k (receive l) = s.unpacking
stated_flat s k (release t) = 0
stated_flat s k (discard l) = 0

unfoldable pub step_flat : Sheet → Bundle → State → ℕ → Option State
step_flat s b σ k = step_in s b (stated_flat s) σ k

unfoldable pub run_from_flat : Sheet → Bundle → Run → List ℕ → Run
run_from_flat s b r [] = r
run_from_flat s b r (k ∷ ks) = run_from_flat s b (took r (step_flat s b r.state k)) ks

unfoldable pub run_flat : Sheet → Bundle → List ℕ → Run
run_flat s b ks = run_from_flat s b (fresh_run s b) ks

unfoldable pub settle_flat : ℕ → Sheet → Bundle → State → State
settle_flat zero s b σ = σ
settle_flat (suc n) s b σ = onwards (settle_flat n s b) σ (then (first (programme_count b) (λ k. holds_some (step_flat s b σ k))) (step_flat s b σ))

unfoldable pub settled_flat : Sheet → Bundle → State
settled_flat s b = settle_flat (whole b each) s b (fresh_state s b)
