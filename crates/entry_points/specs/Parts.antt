-- How the inner parts of the interface end, by the answers that they stand for.
use Rattle.std.specs.Prelude.{ℕ, ◌≤◌, ◌≡◌, List, length}
use Rattle.folds.specs.Answers.{Answer, value, refused, written}
use Rattle.sheet.specs.Sheet.{Sheet}
use Rattle.bundle.specs.Bundle.{Bundle}
use Rattle.machine.specs.Machine.{State}
use Rattle.workspace.specs.Area.{fixed}
use Rattle.stepping_machine.specs.Represents.{Represents}
use Rattle.stepping_machine.specs.Starts.{starting}
use Rattle.entry_points.specs.Values.{task_table, link_table, board_after, no_place, value_count, command_table, claim_after}
use Rattle.entry_points.specs.Values.{numbers_of}
use Rattle.std.specs.Prelude.{Result, Ok, Err}
use Rattle.refusals.specs.Refusals.{result_of}
use Rattle.refusals.specs.declared.Refusal.{Refusal}

-- an answer whose result has a length
abbrev pub outcome_of : {A : Type 0} → (A → ℕ) → Answer A → Result ℕ Refusal
outcome_of f a = result_of f a

abbrev pub number_of : Result ℕ Refusal → ℕ
number_of (Ok n) = 0
number_of (Err r) = r.number

abbrev pub place_of : Result ℕ Refusal → ℕ
place_of (Ok n) = n
place_of (Err r) = r.place

-- an answer alone
pub record EndIs {A : Type 0} (f : A → ℕ) (a : Answer A) (work work' : List ℕ) (o : Result ℕ Refusal) : Type 0 where
  pub answer : o ≡ outcome_of f a
  pub long : length work' ≡ length work

-- one output
pub record PartIs (a : Answer (List ℕ)) (work work' out out' : List ℕ) (o : Result ℕ Refusal) : Type 0 where
  pub answer : o ≡ outcome_of length a
  pub output : out' ≡ written out a
  pub long : length work' ≡ length work

-- a sheet's tables
pub record SheetIs (a : Answer Sheet) (work work' t t' l l' b b' : List ℕ) (o : Result ℕ Refusal) : Type 0 where
  pub answer : o ≡ outcome_of no_place a
  pub tasks : t' ≡ written t (task_table a)
  pub links : l' ≡ written l (link_table a)
  pub board : b' ≡ board_after b a
  pub long : length work' ≡ length work

-- a bundle's values
pub record BundleIs (a : Answer Bundle) (work work' c c' : List ℕ) (t t' : ℕ) (o : Result ℕ Refusal) : Type 0 where
  pub answer : o ≡ outcome_of value_count a
  pub commands : c' ≡ written c (command_table a)
  pub claim : t' ≡ claim_after t a
  pub long : length work' ≡ length work

-- a machine that was started on these bytes and left in the state τ
pub record StateIs (f : Sheet × Bundle → ℕ) (τ : Sheet → Bundle → State) (sheet bundle work work' state state' : List ℕ) (o : Result ℕ Refusal) : Type 0 where
  pub answer : o ≡ outcome_of f (starting sheet bundle)
  pub long : length work' ≡ length work
  pub state_long : length state' ≡ length state
  pub untouched : (n at : ℕ) → starting sheet bundle ≡ refused n at → state' ≡ state
  pub keeps : fixed ≤ length state → (s : Sheet) (b : Bundle) → starting sheet bundle ≡ value (s, b) → Represents s b state' (τ s b)

-- the numbers of processor k
pub record NumbersIs (state : List ℕ) (k : ℕ) (x : List ℕ) : Type 0 where
  pub is : (s : Sheet) (b : Bundle) (σ : State) → Represents s b state σ → x ≡ numbers_of σ k
