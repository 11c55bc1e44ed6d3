-- What the checker's code promises: the definition's number and place.
use Rattle.std.specs.Prelude.{ℕ, ◌≡◌, List, length}
use Rattle.folds.specs.Answers.{Answer, and_then}
use Rattle.sheet.specs.Sheet.{Sheet}
use Rattle.sheet.specs.Tables.{sheet_in}
use Rattle.bundle.specs.Bundle.{Bundle}
use Rattle.bundle.specs.Format.{read_bundle}
use Rattle.admission.specs.Fields.{Known}
use Rattle.admission.specs.declared.view.View.{View}
use Rattle.workspace.specs.Found.{found_of}
use Rattle.workspace.specs.Found.{Found}
use Rattle.machine.specs.Machine.{State}
use Rattle.machine.specs.Runs.{latest}
use Rattle.stepping_machine.specs.Represents.{Represents}
use Rattle.checker.specs.Checker.{at29, closing, checked, check}
use Rattle.std.specs.Prelude.{⊤, Result}
use Rattle.refusals.specs.Refusals.{result_of}
use Rattle.refusals.specs.declared.Refusal.{Refusal}

abbrev pub verdict_of : Answer Bundle → Result ⊤ Refusal
verdict_of a = result_of (λ b. tt) a

-- of a bundle's bytes, for a sheet
unfoldable pub checked_bytes : Sheet → List ℕ → Answer Bundle
checked_bytes s bundle = and_then (read_bundle s bundle) (checked s)

-- by words that represent a state: 29's place, the latest clock, and the end
pub record UnfinishedIs (w : List ℕ) (r : Found) : Type 0 where
  pub is_29 : (s : Sheet) (b : Bundle) (σ : State) → Represents s b w σ → found_of r ≡ at29 b σ

pub record LatestIs (w : List ℕ) (r : ℕ) : Type 0 where
  pub is_latest : (s : Sheet) (b : Bundle) (σ : State) → Represents s b w σ → r ≡ latest σ

pub record FinishIs (w : List ℕ) (claim : ℕ) (r : Result ⊤ Refusal) : Type 0 where
  pub is_end : (s : Sheet) (b : Bundle) (σ : State) → Represents s b w σ → b.claim ≡ claim → r ≡ verdict_of (closing b σ)

-- any bytes, for a sheet seen by v
pub record JudgementIs (sheet bundle w last : List ℕ) (v : View) (r : Result ⊤ Refusal) : Type 0 where
  pub long : length last ≡ length w
  pub is : (s : Sheet) → Known s sheet v → r ≡ verdict_of (checked_bytes s bundle)

-- any bytes, for the sheet in the tables of the work area
pub record CheckIs (bundle w last : List ℕ) (r : Result ⊤ Refusal) : Type 0 where
  pub long : length last ≡ length w
  pub is : r ≡ verdict_of (checked_bytes (sheet_in w) bundle)

-- any bytes of a sheet and of a bundle
pub record BytesIs (sheet bundle work last : List ℕ) (r : Result ⊤ Refusal) : Type 0 where
  pub long : length last ≡ length work
  pub is : r ≡ verdict_of (check sheet bundle)
