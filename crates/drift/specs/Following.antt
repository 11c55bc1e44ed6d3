-- The steps of a run: followed on from a state, and seen back from one.
use Rattle.std.specs.Prelude.{ℕ, ◌+◌, ◌≡◌, List, [], ◌∷◌, map}
use Rattle.std.proofs.Math.Option.{some}
use Rattle.folds.specs.Folds.{pick}
use Rattle.sheet.specs.Sheet.{Sheet}
use Rattle.bundle.specs.Bundle.{Command, run, Bundle}
use Rattle.admission.specs.Counting.{same}
use Rattle.machine.specs.Machine.{State, fresh_state, processor_of, next, stated, step_in}
use Rattle.drift.specs.Tails.{Steps, tails}

pub data Follows (s : Sheet) (b : Bundle) (time : ℕ → Command → ℕ) : Steps → State → State → Type 0 where
  done : {σ : State} → Follows s b time [] σ σ
  more : {σ τ φ : State} {es : Steps} (k : ℕ) (c : Command) → next b σ k ≡ some c → step_in s b time σ k ≡ some τ → Follows s b time es τ φ → Follows s b time ((k, c) ∷ es) σ φ

abbrev pub commands : Steps → List Command
commands es = map (λ (e : ℕ × Command). e.1) es

module _ (s : Sheet) (b : Bundle) (time : ℕ → Command → ℕ) where
  -- "the longest path through" the run of t: its end, and the tail of its processor there
  unfoldable pub through : (t : ℕ) {es : Steps} {σ φ : State} → Follows s b time es σ φ → ℕ
  through t done = 0
  through t (more {τ = τ} {es = fs} k c n e r) = pick (same (run t) c) ((processor_of τ k).clock + (tails time fs).own k) (through t r)

-- the steps from the fresh state to a state, the last one first
pub data Trail (s : Sheet) (b : Bundle) : Steps → State → Type 0 where
  fresh : Trail s b [] (fresh_state s b)
  behind : {ρ τ : State} {es : Steps} (k : ℕ) (c : Command) → Trail s b es ρ → next b ρ k ≡ some c → step_in s b (stated s b) ρ k ≡ some τ → Trail s b ((k, c) ∷ es) τ

-- when the last run of t ended, 0 where there is none
unfoldable pub end_of : {s : Sheet} {b : Bundle} {es : Steps} {σ : State} → Trail s b es σ → ℕ → ℕ
end_of fresh t = 0
end_of (behind {τ = τ} k c r n e) t = pick (same (run t) c) (processor_of τ k).clock (end_of r t)
