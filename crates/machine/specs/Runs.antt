-- Runs: the state after a list of choices of a processor, and what is done and left of the programmes then.
use Rattle.std.specs.Prelude.{ℕ, zero, suc, ◌+◌, ◌-◌, ◌≤◌, Bool, List, [], ◌∷◌, ◌≡◌, length, take, drop}
use Rattle.std.proofs.Math.Option.{Option, none, some}
use Rattle.folds.specs.Folds.{sum, greatest, first, then}
use Rattle.sheet.specs.Sheet.{Sheet}
use Rattle.bundle.specs.Bundle.{Command, Bundle, programme_count, programme_of}
use Rattle.admission.specs.Counting.{weigh, whole, each}
use Rattle.machine.specs.Machine.{State, fresh_state, processor_of, stated, step_in, step, can_step}

-- a run: the state after a list of choices, and how many of them stepped
pub record Run : Type 0 where
  pub state : State
  pub stepped : ℕ

-- the state after a choice, by what its step gives
abbrev pub chosen : State → Option State → State
chosen σ none = σ
chosen σ (some τ) = τ

abbrev pub took : Run → Option State → Run
took r none = r
took r (some τ) = record { state = τ; stepped = suc r.stepped }

-- "a choice that cannot step, or names no programme, changes nothing"
unfoldable pub choose : Sheet → Bundle → Run → ℕ → Run
choose s b r k = took r (step s b r.state k)

unfoldable pub run_from : Sheet → Bundle → Run → List ℕ → Run
run_from s b r [] = r
run_from s b r (k ∷ ks) = run_from s b (choose s b r k) ks

abbrev pub fresh_run : Sheet → Bundle → Run
fresh_run s b = record { state = fresh_state s b; stepped = 0 }

-- "a list of choices, of any length and any numbers, from the fresh state"
unfoldable pub run_of : Sheet → Bundle → List ℕ → Run
run_of s b ks = run_from s b (fresh_run s b) ks

-- a choice of a processor whose command ends early, or whose message comes early: by this much, and by all of its stated time where that is less.
-- So "any whole time up to" the stated one can be chosen "afresh at every step", and with 0 it is the stated one
pub record Choice : Type 0 where
  pub processor : ℕ
  pub early : ℕ

abbrev pub on_time : ℕ → Choice
on_time k = record { processor = k; early = 0 }

abbrev pub shortened : Sheet → Bundle → ℕ → ℕ → Command → ℕ
shortened s b e k c = stated s b k c - e

unfoldable pub choose_early : Sheet → Bundle → Run → Choice → Run
choose_early s b r c = took r (step_in s b (shortened s b c.early) r.state c.processor)

unfoldable pub early_from : Sheet → Bundle → Run → List Choice → Run
early_from s b r [] = r
early_from s b r (c ∷ cs) = early_from s b (choose_early s b r c) cs

-- a list of choices with their times, of any length and any numbers, from the fresh state
unfoldable pub early_of : Sheet → Bundle → List Choice → Run
early_of s b cs = early_from s b (fresh_run s b) cs

-- "stated times throughout"
abbrev pub Stated : List Choice → Type 0
Stated [] = Unit {0}
Stated (c ∷ cs) = (c.early ≡ 0) × Stated cs

-- what each choice of a list is told: whether it stepped
unfoldable pub answers : Sheet → Bundle → Run → List ℕ → List Bool
answers s b r [] = []
answers s b r (k ∷ ks) = can_step s b r.state k ∷ answers s b (choose s b r k) ks

-- sums of f over the commands of k's programme that are done, and those left; and over the same of all programmes
unfoldable pub done_of : Bundle → State → (Command → ℕ) → ℕ → ℕ
done_of b σ f k = weigh f (take (processor_of σ k).position (programme_of b k))

unfoldable pub left_of : Bundle → State → (Command → ℕ) → ℕ → ℕ
left_of b σ f k = weigh f (drop (processor_of σ k).position (programme_of b k))

unfoldable pub done : Bundle → State → (Command → ℕ) → ℕ
done b σ f = sum (programme_count b) (done_of b σ f)

unfoldable pub left : Bundle → State → (Command → ℕ) → ℕ
left b σ f = sum (programme_count b) (left_of b σ f)

unfoldable pub clock_of : State → ℕ → ℕ
clock_of σ k = (processor_of σ k).clock

-- "the greatest of all, 0 without programmes"
unfoldable pub latest : State → ℕ
latest σ = greatest (length σ.processors) (clock_of σ)

-- of two runs' stamps of a message: it was sent in both or in neither, and the second is no earlier, and at most e later
abbrev pub Later : ℕ → Option ℕ → Option ℕ → Type 0
Later e none none = Unit {0}
Later e none (some y) = ⊥
Later e (some x) none = ⊥
Later e (some x) (some y) = (x ≤ y) × (y ≤ x + e)

-- at most n steps, each of the lowest processor that can step
abbrev pub onwards : (State → State) → State → Option State → State
onwards on σ none = σ
onwards on σ (some τ) = on τ

unfoldable pub settle : ℕ → Sheet → Bundle → State → State
settle zero s b σ = σ
settle (suc n) s b σ = onwards (settle n s b) σ (then (first (programme_count b) (can_step s b σ)) (step s b σ))

-- the state in which nobody can step any more
unfoldable pub settled : Sheet → Bundle → State
settled s b = settle (whole b each) s b (fresh_state s b)
