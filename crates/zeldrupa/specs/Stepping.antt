-- What the functions of the stepping machine give. How its state is kept in words is `Represents` of stepping_machine/specs/Represents.
use Rattle.std.specs.Prelude.{ℕ, suc, ◌≤◌, ◌<◌, ◌≡◌, List, length, ltb}
use Rattle.std.proofs.Math.Option.{Option, none, some}
use Rattle.folds.specs.Folds.{pick, bit}
use Rattle.folds.specs.Answers.{Answer, value, refused, long_enough, number, place_or, cleared}
use Rattle.workspace.specs.Area.{fixed}
use Rattle.sheet.specs.Sheet.{Sheet}
use Rattle.bundle.specs.Bundle.{Bundle}
use Rattle.admission.specs.Counting.{each}
use Rattle.machine.specs.Machine.{State, fresh_state, stamp_of, step, can_step}
use Rattle.machine.specs.Runs.{chosen, run_of, left}
use Rattle.stepping_machine.specs.Words.{Blank}
use Rattle.stepping_machine.specs.Represents.{Represents}
use Rattle.stepping_machine.specs.Starts.{starting}
use Rattle.entry_points.specs.Values.{stepped_in, numbers_of}

-- zeldrupa_start, zeldrupa_run: 13 for the work area, then for the state's
unfoldable pub start_answer : List ℕ → List ℕ → ℕ → ℕ → Answer (Sheet × Bundle)
start_answer sheet bundle work state = long_enough fixed work (long_enough fixed state (starting sheet bundle))

-- a refusal changes no state; otherwise the words keep τ, and f is the place
pub record GivesState (f : Sheet × Bundle → ℕ) (τ : Sheet → Bundle → State) (sheet bundle work work' state state' : List ℕ) (p r : ℕ) : Type 0 where
  pub returns : r ≡ number (start_answer sheet bundle (length work) (length state))
  pub place : p ≡ place_or f (start_answer sheet bundle (length work) (length state))
  pub area : work' ≡ pick (ltb (length state) fixed) work (cleared fixed work)
  pub long : length state' ≡ length state
  pub untouched : (n at : ℕ) → start_answer sheet bundle (length work) (length state) ≡ refused n at → state' ≡ state
  pub keeps : (s : Sheet) (b : Bundle) → start_answer sheet bundle (length work) (length state) ≡ value (s, b) → Represents s b state' (τ s b)

-- zeldrupa_start: the fresh state
abbrev pub GivesStart : List ℕ → List ℕ → List ℕ → List ℕ → List ℕ → List ℕ → ℕ → ℕ → Type 0
GivesStart = GivesState (λ x. 0) fresh_state

-- zeldrupa_run: the state after a list of choices, and how many of them stepped
abbrev pub GivesRun : List ℕ → List ℕ → List ℕ → List ℕ → List ℕ → List ℕ → List ℕ → ℕ → ℕ → Type 0
GivesRun choices = GivesState (stepped_in choices) (λ s b. (run_of s b choices).state)

-- the number returned by the functions that need no work area
abbrev pub state_number : List ℕ → ℕ
state_number state = pick (ltb (length state) fixed) 13 0

-- zeldrupa_step: the place is 1 if the choice stepped, 0 if it could not; "a choice that cannot step, or names no programme, changes nothing and says so"
pub record GivesStep (state state' : List ℕ) (k p r : ℕ) : Type 0 where
  pub returns : r ≡ state_number state
  pub short : length state < fixed → (p ≡ fixed) × (state' ≡ state)
  pub long : length state' ≡ length state
  pub stays : p ≡ 0 → state' ≡ state
  -- a state that was never started: words that are all 0
  pub blank : fixed ≤ length state → Blank state → p ≡ 0
  pub agrees : fixed ≤ length state → (s : Sheet) (b : Bundle) (σ : State) → Represents s b state σ
      → (p ≡ bit (can_step s b σ k)) × Represents s b state' (chosen σ (step s b σ k))

-- zeldrupa_left: the commands still to do
pub record GivesLeft (state : List ℕ) (p r : ℕ) : Type 0 where
  pub returns : r ≡ state_number state
  pub short : length state < fixed → p ≡ fixed
  pub blank : fixed ≤ length state → Blank state → p ≡ 0
  pub agrees : fixed ≤ length state → (s : Sheet) (b : Bundle) (σ : State) → Represents s b state σ → p ≡ left b σ each

-- zeldrupa_processor: clock, position and store in use of processor k, each 0 where it has no programme
pub record GivesProcessor (state : List ℕ) (k : ℕ) (x x' : List ℕ) (p r : ℕ) : Type 0 where
  pub returns : r ≡ state_number state
  pub place : p ≡ pick (ltb (length state) fixed) fixed 0
  pub short : length state < fixed → x' ≡ x
  pub agrees : fixed ≤ length state → (s : Sheet) (b : Bundle) (σ : State) → Represents s b state σ → x' ≡ numbers_of σ k

-- zeldrupa_stamp: one more than the stamp of link l, or 0 while its message is not sent
abbrev pub stamp_number : Option ℕ → ℕ
stamp_number none = 0
stamp_number (some x) = suc x

pub record GivesStamp (state : List ℕ) (l p r : ℕ) : Type 0 where
  pub returns : r ≡ state_number state
  pub short : length state < fixed → p ≡ fixed
  pub agrees : fixed ≤ length state → (s : Sheet) (b : Bundle) (σ : State) → Represents s b state σ → p ≡ stamp_number (stamp_of σ l)
