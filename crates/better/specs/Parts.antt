-- What the parts of the choice promise.
use Rattle.std.specs.Prelude.{ℕ, ◌<◌, ◌≡◌, Bool, List, length}
use Rattle.std.proofs.Math.Option.{Option, none, some}
use Rattle.folds.specs.Answers.{Answer}
use Rattle.sheet.specs.Sheet.{Sheet}
use Rattle.bundle.specs.Bundle.{Bundle, programme_count, programme_of}
use Rattle.admission.specs.Fields.{Known}
use Rattle.admission.specs.declared.view.View.{View}
use Rattle.machine.specs.Machine.{State}
use Rattle.stepping_machine.specs.Represents.{Represents}
use Rattle.checker.specs.Verdicts.{checked_bytes}
use Rattle.better.specs.Orders.{Rank}
use Rattle.better.specs.Ranks.{runs_task, runners, rank_by}
use Rattle.better.specs.Choices.{Side, firstLent, secondLent, choice, better}
use Rattle.better.specs.declared.standings.Standing.{Standing}
use Rattle.better.specs.declared.choosing.Lent.{Lent}
use Rattle.better.specs.declared.choosing.Lent.TheVariants.{First, Second}
use Rattle.std.specs.Prelude.{Result, Some, None}
use Rattle.std.specs.Prelude.{Option as Maybe}
use Rattle.refusals.specs.Refusals.{result_of}
use Rattle.refusals.specs.declared.Refusal.{Refusal}

-- by words that represent a state of the bundle b: whether programme k runs a task, and how many do
pub record RunsIs (w : List ℕ) (k : ℕ) (r : Bool) : Type 0 where
  pub is : (s : Sheet) (b : Bundle) (σ : State) → Represents s b w σ → k < programme_count b → r ≡ runs_task (programme_of b k)

pub record RunnersIs (w : List ℕ) (r : ℕ) : Type 0 where
  pub is : (s : Sheet) (b : Bundle) (σ : State) → Represents s b w σ → r ≡ runners b

-- a bundle's bytes with their standing
abbrev pub rank_in : List ℕ → Maybe Standing → Option Rank
rank_in bytes (Some x) = some (record { claim = x.claim; runners = x.runners; bytes = bytes })
rank_in bytes None = none

-- of any bytes, for a sheet seen by v
pub record StandingIs (sheet bundle w last : List ℕ) (v : View) (r : Maybe Standing) : Type 0 where
  pub long : length last ≡ length w
  pub is : (s : Sheet) → Known s sheet v → rank_in bundle r ≡ rank_by bundle (checked_bytes s bundle)

-- the code's choice
abbrev pub lent_of : Side → Lent
lent_of firstLent = First
lent_of secondLent = Second

abbrev pub choice_of : Answer Side → Result Lent Refusal
choice_of a = result_of lent_of a

-- of two bundles, for a sheet seen by v
pub record ComparedIs (sheet first second w last : List ℕ) (v : View) (r : Result Lent Refusal) : Type 0 where
  pub long : length last ≡ length w
  pub is : (s : Sheet) → Known s sheet v → r ≡ choice_of (choice (rank_by first (checked_bytes s first)) (rank_by second (checked_bytes s second)))

-- of two bundles, for any bytes of a sheet
pub record ChosenIs (sheet first second work last : List ℕ) (r : Result Lent Refusal) : Type 0 where
  pub long : length last ≡ length work
  pub is : r ≡ choice_of (better sheet first second)
