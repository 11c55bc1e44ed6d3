-- What the pass promises of any bytes: the answer, and what stands in the lent output afterwards.
use Rattle.std.specs.Prelude.{ℕ, ◌≡◌, List, length}
use Rattle.folds.specs.Answers.{Answer, value, and_then, fitting}
use Rattle.sheet.specs.Sheet.{Sheet, task_count, link_count}
use Rattle.graph.specs.Graph.{read_sheet}
use Rattle.bundle.specs.Bundle.{Bundle}
use Rattle.bundle.specs.Format.{read_bundle}
use Rattle.bundle.specs.Writing.{bundle_bytes}
use Rattle.admission.specs.Fields.{Known}
use Rattle.admission.specs.declared.view.View.{View}
use Rattle.checker.specs.Verdicts.{checked_bytes}
use Rattle.releasing.specs.Releasing.{releasing, passed}
use Rattle.releasing.specs.Inserting.{with_releases, Bare, Marked}
use Rattle.releasing.specs.Queues.{Queued}
use Rattle.std.specs.Prelude.{Result}
use Rattle.refusals.specs.Refusals.{WriteIs}
use Rattle.refusals.specs.declared.Refusal.{Refusal}

-- the bytes of the passed bundle, or the checker's refusal: of a bundle's bytes for a sheet, and of the bytes of both
unfoldable pub passed_bytes : Sheet → List ℕ → Answer (List ℕ)
passed_bytes s bundle = and_then (read_bundle s bundle) (λ b. and_then (passed s b) (λ a. value (bundle_bytes a)))

unfoldable pub pass : List ℕ → List ℕ → Answer (List ℕ)
pass sheet bundle = and_then (read_sheet sheet) (λ s. passed_bytes s bundle)

-- a bundle without releases, whose things are marked and queued in the words w
pub record ReleasedIs (bundle w old last : List ℕ) (r : Result ℕ Refusal) : Type 0 where
  pub long : length last ≡ length old
  pub is : (s : Sheet) (b : Bundle) → Bare s b bundle → Marked s b w → Queued (task_count s) (link_count s) w 0 → WriteIs (fitting (length old) (bundle_bytes (with_releases s b))) old last r

-- an accepted bundle, for a sheet seen by v
pub record AcceptedIs (sheet bundle w w' : List ℕ) (v : View) (old last : List ℕ) (r : Result ℕ Refusal) : Type 0 where
  pub area : length w' ≡ length w
  pub long : length last ≡ length old
  pub is : (s : Sheet) → Known s sheet v → (b : Bundle) → checked_bytes s bundle ≡ value b → WriteIs (fitting (length old) (bundle_bytes (releasing s b))) old last r

-- any bytes, for a sheet seen by v
pub record PassIs (sheet bundle w w' : List ℕ) (v : View) (old last : List ℕ) (r : Result ℕ Refusal) : Type 0 where
  pub area : length w' ≡ length w
  pub long : length last ≡ length old
  pub is : (s : Sheet) → Known s sheet v → WriteIs (and_then (passed_bytes s bundle) (fitting (length old))) old last r

-- any bytes of a sheet and of a bundle
pub record ReleaseIs (sheet bundle work work' old last : List ℕ) (r : Result ℕ Refusal) : Type 0 where
  pub area : length work' ≡ length work
  pub is : WriteIs (and_then (pass sheet bundle) (fitting (length old))) old last r
