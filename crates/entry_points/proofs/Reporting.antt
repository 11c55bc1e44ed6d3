-- From the report to the ends of its function.
use Rattle.std.specs.Prelude.{Result}
use Rattle.refusals.specs.declared.Refusal.{Refusal}
use Prim.Native.Nat.{ℕ}
use mathlib.Core.List.{List}
use lib.ListN.{length}
use Rattle.folds.specs.Answers.{and_then, fitting}
use Rattle.drift.specs.Reporting.{report, ReportIs}
use Rattle.entry_points.specs.Parts.{PartIs}

pub drift-is : (sheet bundle : List ℕ) {work mid out out' : List ℕ} {r : Result ℕ Refusal} → ReportIs sheet bundle work mid out out' r → PartIs (and_then (report sheet bundle) (fitting (length out))) work mid out out' r
drift-is sheet bundle h = record { answer = h.is.answer; output = h.is.left; long = h.area }
