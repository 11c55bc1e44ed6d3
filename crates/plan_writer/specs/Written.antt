-- What writing a bundle promises: how the answer is told, and what stands in the lent memory afterwards.
use Rattle.std.specs.Prelude.{ℕ, ◌≡◌, List, length}
use Rattle.folds.specs.Answers.{Answer, and_then, fitting}
use Rattle.sheet.specs.Sheet.{Sheet}
use Rattle.graph.specs.Graph.{read_sheet}
use Rattle.bundle.specs.Writing.{bundle_bytes}
use Rattle.std.specs.Prelude.{Result}
use Rattle.refusals.specs.Refusals.{WriteIs}
use Rattle.refusals.specs.declared.Refusal.{Refusal}
use Rattle.planner.specs.Schedule.{Schedule}
use Rattle.planner.specs.Planner.{planned, bundle_of}

-- the bundle of a schedule, for output of this length: 12 where it is longer
abbrev pub bundle_for : ℕ → Sheet → Schedule → Answer (List ℕ)
bundle_for lent s σ = fitting lent (bundle_bytes (bundle_of s σ))

-- the planner's answer for the bytes of a sheet: 1 to 10, then 11, then 12
abbrev pub plan_for : ℕ → List ℕ → Answer (List ℕ)
plan_for lent b = and_then (read_sheet b) (λ s. and_then (planned s) (bundle_for lent s))

-- the work area keeps its length
pub record PlanIs (a : Answer (List ℕ)) (work work' old last : List ℕ) (r : Result ℕ Refusal) : Type 0 where
  pub is : WriteIs a old last r
  pub long : length work' ≡ length work
