-- Running on: some list of choices, and when nobody can step any more.
use Rattle.std.specs.Prelude.{ℕ, ◌≤◌, ◌≡◌, List}
use Rattle.std.proofs.Math.Option.{none}
use Rattle.sheet.specs.Sheet.{Sheet}
use Rattle.bundle.specs.Bundle.{Bundle}
use Rattle.machine.specs.Machine.{State, step}
use Rattle.machine.specs.Runs.{Run, run_from}
use Rattle.machine.specs.Kept.{RunIs}
use Rattle.stepping_machine.specs.Layout as lay
use Rattle.stepping_machine.specs.Represents.{Represents}

-- some choices were made, and n of them stepped
pub record Goes (w last : List ℕ) (n : ℕ) : Type 0 where
  pub choices : List ℕ
  pub runs : RunIs Represents choices w last n

-- k cannot step
pub record Halts (w : List ℕ) (k : ℕ) : Type 0 where
  pub none_at : (s : Sheet) (b : Bundle) (σ : State) → Represents s b w σ → step s b σ k ≡ none

-- one processor as far as it goes
pub record AdvanceIs (w last : List ℕ) (k n : ℕ) : Type 0 where
  pub goes : Goes w last n
  pub few : n ≤ lay.longest
  pub same : n ≡ 0 → last ≡ w
  pub halts : n ≡ 0 → Halts w k

-- each of them once
pub record RoundIs (w last : List ℕ) (n : ℕ) : Type 0 where
  pub goes : Goes w last n
  pub same : n ≡ 0 → last ≡ w
  pub halts : n ≡ 0 → (k : ℕ) → Halts w k

-- until nobody can step
pub record SettleIs (w last : List ℕ) : Type 0 where
  pub choices : List ℕ
  pub count : ℕ
  pub runs : RunIs Represents choices w last count
  pub still : (s : Sheet) (b : Bundle) (r : Run) → Represents s b w r.state → (k : ℕ) → step s b (run_from s b r choices).state k ≡ none
