-- What starting the machine promises: words that represent the fresh state.
use Rattle.std.specs.Prelude.{ℕ, ◌+◌, ◌≤◌, ◌<◌, ◌≡◌, ◌⊎◌, List, length, get_or}
use Rattle.folds.specs.Answers.{Answer, value, refused, and_then}
use Rattle.sheet.specs.Sheet.{Sheet}
use Rattle.sheet.specs.Tables.{sheet_in}
use Rattle.graph.specs.Graph.{read_sheet}
use Rattle.bundle.specs.Bundle.{Bundle, programme_count}
use Rattle.bundle.specs.Counts.{command_count}
use Rattle.admission.specs.Fields.{Known}
use Rattle.admission.specs.Admitted.{admitted_bytes, judged_of}
use Rattle.admission.specs.declared.view.View.{View}
use Rattle.std.specs.Prelude.{Result, Err}
use Rattle.bundle_reader.specs.Answers.{outline_of}
use Rattle.bundle_reader.specs.declared.bytes.Outline.{Outline}
use Rattle.refusals.specs.Refusals.{result_of}
use Rattle.refusals.specs.declared.Refusal.{Refusal}
use Rattle.machine.specs.Machine.{fresh_state}
use Rattle.stepping_machine.specs.Layout as lay
use Rattle.stepping_machine.specs.Words.{need_in}
use Rattle.stepping_machine.specs.Represents.{Represents, Within}

-- 21 to 26, 31 to 33, 37 and 28 of any bytes, for a sheet seen by v; where none applies, the words represent the fresh state
pub record AdmitIs (sheet bundle w last : List ℕ) (v : View) (r : Result Outline Refusal) : Type 0 where
  pub long : length last ≡ length w
  pub is : (s : Sheet) → Known s sheet v → r ≡ judged_of (admitted_bytes s bundle)
  pub represents : (s : Sheet) → Known s sheet v → (b : Bundle) → admitted_bytes s bundle ≡ value b
      → Represents s b last (fresh_state s b) × Within b last (lay.commands + command_count b + programme_count b)

-- the words from a up to e of another list; the others stay
pub record CopyIs (from w last : List ℕ) (a e : ℕ) : Type 0 where
  pub long : length last ≡ length w
  pub same : (i : ℕ) → a ≤ i → i < e → get_or last i 0 ≡ get_or from i 0
  pub other : (i : ℕ) → (i < a) ⊎ (e ≤ i) → get_or last i 0 ≡ get_or w i 0

-- all words of a machine with l links, n tasks and commands up to the index e
pub record HandIs (from w last : List ℕ) (l n e : ℕ) : Type 0 where
  pub long : length last ≡ length w
  pub low : (i : ℕ) → i < lay.stamps + l → get_or last i 0 ≡ get_or from i 0
  pub needs : (t : ℕ) → t < n → need_in last t ≡ need_in from t
  pub commands : (i : ℕ) → lay.commands ≤ i → i < e → get_or last i 0 ≡ get_or from i 0

-- the same in words of their own: a refusal leaves them alone
pub record BeginIs (sheet bundle w after state last : List ℕ) (v : View) (r : Result Outline Refusal) : Type 0 where
  pub long : length after ≡ length w
  pub state_long : length last ≡ length state
  pub untouched : (x : Refusal) → r ≡ Err x → last ≡ state
  pub is : (s : Sheet) → Known s sheet v → r ≡ judged_of (admitted_bytes s bundle)
  pub represents : (s : Sheet) → Known s sheet v → (b : Bundle) → admitted_bytes s bundle ≡ value b → Represents s b last (fresh_state s b)

-- the same for the sheet in the tables of the work area
pub record OpenIs (sheet bundle work after state last : List ℕ) (r : Result Outline Refusal) : Type 0 where
  pub long : length after ≡ length work
  pub state_long : length last ≡ length state
  pub untouched : (x : Refusal) → r ≡ Err x → last ≡ state
  pub is : r ≡ judged_of (admitted_bytes (sheet_in work) bundle)
  pub represents : (b : Bundle) → admitted_bytes (sheet_in work) bundle ≡ value b → Represents (sheet_in work) b last (fresh_state (sheet_in work) b)

-- "gives the first refusal that applies of 1 to 10 and 21 to 28, and starts exactly when none does", with 31 to 33 for 27, and 37 before 28
unfoldable pub starting : List ℕ → List ℕ → Answer (Sheet × Bundle)
starting sheet bundle = and_then (read_sheet sheet) (λ s. and_then (admitted_bytes s bundle) (λ b. value (s, b)))

abbrev pub started_of : Answer (Sheet × Bundle) → Result Outline Refusal
started_of a = result_of (λ x. outline_of x.1) a

-- the same of any bytes of a sheet
pub record BytesIs (sheet bundle work after state last : List ℕ) (r : Result Outline Refusal) : Type 0 where
  pub long : length after ≡ length work
  pub state_long : length last ≡ length state
  pub is : r ≡ started_of (starting sheet bundle)
  pub untouched : (number place : ℕ) → starting sheet bundle ≡ refused number place → last ≡ state
  pub represents : (s : Sheet) (b : Bundle) → starting sheet bundle ≡ value (s, b) → Represents s b last (fresh_state s b)
