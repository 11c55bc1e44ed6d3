-- From the planner and the listing to the ends of their functions.
use Rattle.std.specs.Prelude.{Result}
use Rattle.refusals.specs.declared.Refusal.{Refusal}
use Prim.Native.Nat.{ℕ}
use mathlib.Core.Path.{subst}
use mathlib.Core.List.{List}
use lib.ListN.{length}
use Rattle.folds.specs.Answers.{Answer, and_then, fitting}
use Rattle.planner.specs.Planner.{plan}
use Rattle.plan_writer.specs.Written.{plan_for, PlanIs}
use Rattle.plan_writer.proofs.Plans.{plan-for}
use Rattle.listing.specs.Listing.{listing}
use Rattle.listing_writer.specs.Listed.{ListIs}
use Rattle.least.specs.Least.{least_bundle}
use Rattle.search.specs.Whole.{LeastIs}
use Rattle.entry_points.specs.Parts.{PartIs}

pub plan-is : (sheet : List ℕ) {work mid out out' : List ℕ} {r : Result ℕ Refusal} → PlanIs (plan_for (length out) sheet) work mid out out' r → PartIs (and_then (plan sheet) (fitting (length out))) work mid out out' r
plan-is sheet {work} {mid} {out} {out'} {r} h = subst (λ (a : Answer (List ℕ)). PartIs a work mid out out' r) (plan-for (length out) sheet) record { answer = h.is.answer; output = h.is.left; long = h.long }

pub list-is : (sheet : List ℕ) {work mid out out' : List ℕ} {r : Result ℕ Refusal} → ListIs sheet work mid out out' r → PartIs (fitting (length out) (listing sheet)) work mid out out' r
list-is sheet h = record { answer = h.fit.answer; output = h.fit.output; long = h.long }

pub least-is : (sheet : List ℕ) {work mid out out' : List ℕ} {r : Result ℕ Refusal} → LeastIs sheet work mid out out' r → PartIs (and_then (least_bundle sheet) (fitting (length out))) work mid out out' r
least-is sheet h = record { answer = h.answer; output = h.left; long = h.long }
