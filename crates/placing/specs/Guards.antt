-- The one processor, or none (16), that the guard bars in a turn.
use Rattle.std.specs.Prelude.{ℕ, ◌<◌, ◌≡◌, Bool, true, false, eqb}
use Rattle.std.proofs.Math.Option.{Option, none, some}
use Rattle.sheet.specs.Sheet.{Sheet}
use Rattle.planner.specs.Schedule.{Schedule}
use Rattle.planner.specs.Placing.{holds_predecessor, delays, barred}

-- whether t on k delays the task for whose sake the guard applies, if there is one
abbrev pub delays_for : Sheet → Schedule → ℕ → ℕ → Option ℕ → Bool
delays_for s σ t k none = false
delays_for s σ t k (some u) = delays s σ t u k

-- the guard applies for the sake of o
pub record Rival (s : Sheet) (σ : Schedule) (t : ℕ) (o : Option ℕ) : Type 0 where
  pub is : (k : ℕ) → delays_for s σ t k o ≡ barred s σ t k

-- for the sake of u `bars` is barred
pub record BarsFor (s : Sheet) (σ : Schedule) (t u bars : ℕ) : Type 0 where
  pub is : (k : ℕ) → k < 16 → eqb k bars ≡ delays s σ t u k

pub record Bars (s : Sheet) (σ : Schedule) (t bars : ℕ) : Type 0 where
  pub is : (k : ℕ) → k < 16 → eqb k bars ≡ barred s σ t k

-- .. of the processors that hold a predecessor of t: step 1 asks of no other
pub record JoinBarsFor (s : Sheet) (σ : Schedule) (t u bars : ℕ) : Type 0 where
  pub is : (k : ℕ) → k < 16 → holds_predecessor s σ t k ≡ true → eqb k bars ≡ delays s σ t u k

pub record JoinBars (s : Sheet) (σ : Schedule) (t bars : ℕ) : Type 0 where
  pub is : (k : ℕ) → k < 16 → holds_predecessor s σ t k ≡ true → eqb k bars ≡ barred s σ t k
