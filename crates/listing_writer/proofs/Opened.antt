-- From an opened sheet to its listing.
use Prim.Native.Nat.{ℕ}
use mathlib.Core.Bool.{true}
use mathlib.Core.Path.{◌≡◌, sym, ap, subst, ◌∙◌}
use mathlib.Core.List.{List}
use borrow.Author.Tests.{ltb-true}
use lib.ListN.{length}
use Rattle.folds.specs.Answers.{Answer, value, refused, and_then}
use Rattle.sheet.specs.Sheet.{Sheet}
use Rattle.sheet.specs.Tables.{sheet_in}
use Rattle.graph.specs.Graph.{read_sheet}
use Rattle.levelling.specs.Opened.{OpenIs}
use Rattle.levelling.proofs.Opens.{open-refusal, open-value}
use Rattle.graph.proofs.Proper.{Proper, proper}
use Rattle.planner.specs.Schedule.{Schedule, place_of, placed}
use Rattle.planner.specs.Placing.{barred}
use Rattle.planner.specs.Planner.{planned}
use Rattle.planner.proofs.Schedules.{planned-build}
use Rattle.schedule.specs.Layout.{schedule_in}
use Rattle.turns.specs.Turns.{answer_of, Afterwards}
use Rattle.listing.specs.Listing.{lines_of, refusal_line, schedule_lines, listing}
use Rattle.listing_writer.specs.Lines.{Standing, Stands}
use Rattle.listing_writer.specs.Listed.{FitIs, ListIs, planned_lines}
use Rattle.std.specs.Prelude.{⊤, Result, Ok, Err}
use Rattle.refusals.specs.declared.Refusal.{Refusal}
use Rattle.listing_writer.proofs.Fits.{fit-as}

-- the lines of an answer
planned-as : (s : Sheet) (a : Answer Schedule) → a ≡ planned s → lines_of (and_then a (λ σ. value (s, σ))) ≡ planned_lines s
unfolding planned_lines
planned-as s a e = ap (λ (x : Answer Schedule). lines_of (and_then x (λ σ. value (s, σ)))) e

-- the turns place every task
planned-standing : {s : Sheet} → Proper s → Stands s
unfolding planned placed
planned-standing {s} p σ e =
    let m = planned-build s p (barred s) true σ e in
    record { places = λ t h. ltb-true (place_of σ t) 16 (m.2 t h) }

module _ (w w' : List ℕ) (p : Result ⊤ Refusal) (h : answer_of p (schedule_in w') ≡ planned (sheet_in w)) where
  pub planned-refused : {out out' : List ℕ} {r : Result ℕ Refusal} (x : Refusal) → p ≡ Err x → FitIs (refusal_line x.number x.place) out out' r → FitIs (planned_lines (sheet_in w)) out out' r
  planned-refused x e f = fit-as (planned-as (sheet_in w) (refused x.number x.place) (sym (ap (λ (y : Result ⊤ Refusal). answer_of y (schedule_in w')) e) ∙ h)) f

  pub done-standing : p ≡ Ok tt → Afterwards w w' → Stands (sheet_in w) → Standing (sheet_in w') (schedule_in w')
  done-standing e a f =
      subst (λ (s : Sheet). Standing s (schedule_in w')) (sym a.sheet) (f (schedule_in w') (sym h ∙ ap (λ (x : Result ⊤ Refusal). answer_of x (schedule_in w')) e))

  pub planned-done : {out out' : List ℕ} {r : Result ℕ Refusal} → p ≡ Ok tt → Afterwards w w' → FitIs (schedule_lines (sheet_in w') (schedule_in w')) out out' r → FitIs (planned_lines (sheet_in w)) out out' r
  planned-done e a f =
      fit-as
      (ap (λ (s : Sheet). schedule_lines s (schedule_in w')) a.sheet
      ∙ planned-as (sheet_in w) (value (schedule_in w')) (sym (ap (λ (x : Result ⊤ Refusal). answer_of x (schedule_in w')) e) ∙ h)) f

module _ (b : List ℕ) {work mid : List ℕ} {o : Result ⊤ Refusal} (h : OpenIs (read_sheet b) work mid o) where
  pub list-refused : {out out' : List ℕ} {r : Result ℕ Refusal} (x : Refusal) → o ≡ Err x → FitIs (refusal_line x.number x.place) out out' r → ListIs b work mid out out' r
  unfolding listing
  list-refused x q f =
      let a : read_sheet b ≡ refused x.number x.place = open-refusal h x q in
      record {
        fit = fit-as (sym (ap (λ (y : Answer Sheet). lines_of (and_then y (λ s. and_then (planned s) (λ σ. value (s, σ))))) a)) f;
        long = h.long;
      }

  module _ (q : o ≡ Ok tt) where
    pub open-stands : Stands (sheet_in mid)
    open-stands = planned-standing (proper b (sheet_in mid) (open-value h q))

    pub list_read : {out out' : List ℕ} {r : Result ℕ Refusal} (last : List ℕ) → length last ≡ length mid → FitIs (planned_lines (sheet_in mid)) out out' r → ListIs b work last out out' r
    unfolding listing planned_lines
    list_read last l f =
        let a : read_sheet b ≡ value (sheet_in mid) = open-value h q in
        record { fit = fit-as (sym (ap (λ (x : Answer Sheet). lines_of (and_then x (λ s. and_then (planned s) (λ σ. value (s, σ))))) a)) f; long = l ∙ h.long }
