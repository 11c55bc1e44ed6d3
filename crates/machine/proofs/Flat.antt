-- Of a sheet without `48` every run is what it was before C-20.
use Prim.Native.Nat.{ℕ, zero, suc}
use mathlib.Core.Bool.{Bool, false}
use mathlib.Core.Option.{Option, none, some}
use mathlib.Core.Path.{◌≡◌, refl, sym, ap, ◌∙◌}
use mathlib.Core.List.{List, [], ◌∷◌}
use Rattle.folds.specs.Folds.{first, then}
use Rattle.folds.proofs.Laws.{first_cong}
use Rattle.sheet.specs.Sheet.{Sheet}
use Rattle.sheet.proofs.Hopping.{flat-time}
use Rattle.bundle.specs.Bundle.{Command, run, send, receive, release, discard, Bundle, programme_count}
use Rattle.admission.specs.Counting.{whole, each}
use Rattle.machine.specs.Machine.{State, fresh_state, next, waits, travels, stated, moved, step_in, step, can_step, holds_some}
use Rattle.machine.specs.Runs.{Run, took, choose, run_from, fresh_run, run_of, onwards, settle, settled}
use Rattle.machine.specs.Flat.{stated_flat, step_flat, run_from_flat, run_flat, settle_flat, settled_flat}

module _ (s : Sheet) (flat : s.cube ≡ false) (b : Bundle) where
  stated-same : (k : ℕ) (c : Command) → stated s b k c ≡ stated_flat s k c
  unfolding stated travels stated_flat
  stated-same k (run t) = refl
  stated-same k (send l) = flat-time s l k _ flat
  stated-same k (receive l) = refl
  stated-same k (release t) = refl
  stated-same k (discard l) = refl

  pub flat_step : (σ : State) (k : ℕ) → step s b σ k ≡ step_flat s b σ k
  unfolding step step_flat step_in
  flat_step σ k = by (next b σ k)
    where
      waited : (c : Command) (w : Option ℕ) → then w (λ w. some (moved s σ k c (stated s b k c) w)) ≡ then w (λ w. some (moved s σ k c (stated_flat s k c) w))
      waited c w = ap (λ (d : ℕ). then w (λ w. some (moved s σ k c d w))) (stated-same k c)

      by : (o : Option Command) → then o (λ c. then (waits σ c) (λ w. some (moved s σ k c (stated s b k c) w))) ≡ then o (λ c. then (waits σ c) (λ w. some (moved s σ k c (stated_flat s k c) w)))
      by none = refl
      by (some c) = waited c (waits σ c)

  runs-from : (r : Run) (ks : List ℕ) → run_from s b r ks ≡ run_from_flat s b r ks
  unfolding run_from run_from_flat choose
  runs-from r [] = refl
  runs-from r (k ∷ ks) = rw (flat_step r.state k) (runs-from (took r (step_flat s b r.state k)) ks)

  pub flat-runs : (ks : List ℕ) → run_of s b ks ≡ run_flat s b ks
  unfolding run_of run_flat
  flat-runs ks = runs-from (fresh_run s b) ks

  settles : (n : ℕ) (σ : State) → settle n s b σ ≡ settle_flat n s b σ
  unfolding settle settle_flat can_step
  settles zero σ = refl
  settles (suc n) σ =
      rw (first_cong (programme_count b) (can_step s b σ) (λ k. holds_some (step_flat s b σ k)) (λ k l. ap holds_some (flat_step σ k)))
      (by (settles n) (first (programme_count b) (λ k. holds_some (step_flat s b σ k))))
    where
      on : ((τ : State) → settle n s b τ ≡ settle_flat n s b τ) → (o : Option State) → onwards (settle n s b) σ o ≡ onwards (settle_flat n s b) σ o
      on ih none = refl
      on ih (some τ) = ih τ

      by : ((τ : State) → settle n s b τ ≡ settle_flat n s b τ) → (o : Option ℕ) → onwards (settle n s b) σ (then o (step s b σ)) ≡ onwards (settle_flat n s b) σ (then o (step_flat s b σ))
      by ih none = refl
      by ih (some k) = ap (onwards (settle n s b) σ) (flat_step σ k) ∙ on ih (step_flat s b σ k)

  pub flat-settled : settled s b ≡ settled_flat s b
  unfolding settled settled_flat
  flat-settled = settles (whole b each) (fresh_state s b)
