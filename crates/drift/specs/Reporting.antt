-- What the report promises of any bytes: the answer, and what stands in the lent output afterwards.
use Rattle.std.specs.Prelude.{ℕ, ◌≤◌, ◌<◌, ◌≡◌, List, length, get_or}
use Rattle.folds.specs.Folds.{gather}
use Rattle.folds.specs.Answers.{Answer, value, refused, and_then, fitting}
use Rattle.numbers.specs.Number.{number_bytes}
use Rattle.std.specs.Prelude.{⊤, Result, Ok, Err}
use Rattle.refusals.specs.Refusals.{WriteIs}
use Rattle.refusals.specs.declared.Refusal.{Refusal}
use Rattle.sheet.specs.Sheet.{Sheet, task_count}
use Rattle.graph.specs.Graph.{read_sheet}
use Rattle.bundle.specs.Bundle.{Bundle}
use Rattle.admission.specs.Counting.{whole, each}
use Rattle.admission.specs.Messages.{Published}
use Rattle.admission.specs.Fields.{Known}
use Rattle.admission.specs.declared.view.View.{View}
use Rattle.machine.specs.Machine.{fresh_state}
use Rattle.machine.specs.Runs.{left}
use Rattle.stepping_machine.specs.Represents.{Represents}
use Rattle.stepping_machine.specs.Settling.{SettleIs}
use Rattle.checker.specs.Verdicts.{checked_bytes, FinishIs}
use Rattle.drift.specs.Drift.{finishing, drift_of}
use Rattle.drift.specs.Recording.{most_steps, Noted}

-- "for every task in number order .. each a u32 of four bytes, lowest first"
unfoldable pub drift_bytes : Sheet → Bundle → List ℕ
drift_bytes s b = gather (task_count s) (λ t. number_bytes 4 (drift_of s b t))

-- the report, or the checker's refusal: of a bundle's bytes for a sheet, and of the bytes of both
unfoldable pub reported_bytes : Sheet → List ℕ → Answer (List ℕ)
reported_bytes s bundle = and_then (checked_bytes s bundle) (λ b. value (drift_bytes s b))

unfoldable pub report : List ℕ → List ℕ → Answer (List ℕ)
report sheet bundle = and_then (read_sheet sheet) (λ s. reported_bytes s bundle)

unfoldable pub slot_bytes : List ℕ → ℕ → List ℕ
slot_bytes slots n = gather n (λ t. number_bytes 4 (get_or slots t 0))

-- from the end of a recorded run
pub record PutIs (w order slots w' : List ℕ) (steps n claim : ℕ) (old last : List ℕ) (r : Result ℕ Refusal) : Type 0 where
  pub area : length w' ≡ length w
  pub long : length last ≡ length old
  pub is : (s : Sheet) (b : Bundle) → task_count s ≡ n → Published s b → claim < 4294967296 → steps ≤ most_steps → (h : Noted s b w order slots steps) → left b h.state each ≡ 0 → finishing s b ≡ claim
      → WriteIs (fitting (length old) (drift_bytes s b)) old last r

-- an answer behind a verdict
abbrev pub told : {A : Type 0} → Result ⊤ Refusal → Answer A → Answer A
told (Ok x) a = a
told (Err r) a = refused r.number r.place

-- from the fresh state of an admitted bundle: it is run, and its verdict is told
pub record AdmittedIs (w w' : List ℕ) (n claim : ℕ) (old last : List ℕ) (r : Result ℕ Refusal) : Type 0 where
  pub area : length w' ≡ length w
  pub long : length last ≡ length old
  pub mid : List ℕ
  pub verdict : Result ⊤ Refusal
  pub settles : SettleIs w mid
  pub finishes : FinishIs mid claim verdict
  pub is : (s : Sheet) (b : Bundle) → task_count s ≡ n → Published s b → whole b each ≤ most_steps → b.claim ≡ claim → claim < 4294967296 → Represents s b w (fresh_state s b)
      → WriteIs (told verdict (fitting (length old) (drift_bytes s b))) old last r

-- any bytes, for a sheet seen by v
pub record PartIs (sheet bundle w w' : List ℕ) (v : View) (old last : List ℕ) (r : Result ℕ Refusal) : Type 0 where
  pub area : length w' ≡ length w
  pub long : length last ≡ length old
  pub is : (s : Sheet) → Known s sheet v → WriteIs (and_then (reported_bytes s bundle) (fitting (length old))) old last r

-- any bytes of a sheet and of a bundle
pub record ReportIs (sheet bundle work work' old last : List ℕ) (r : Result ℕ Refusal) : Type 0 where
  pub area : length work' ≡ length work
  pub is : WriteIs (and_then (report sheet bundle) (fitting (length old))) old last r
