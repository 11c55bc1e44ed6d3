-- A sheet that is opened: the form first, and then circles and levels.
use Prim.Native.Nat.{ℕ}
use mathlib.Core.Path.{◌≡◌, sym, ap, subst, ◌∙◌}
use mathlib.Core.Option.{Option, none}
use mathlib.Core.List.{List}
use lib.ListN.{length}
use Rattle.folds.specs.Answers.{Answer, value, refused, unless, and_then}
use Rattle.folds.proofs.Tests.{not-value, value_same}
use Rattle.sheet.specs.Sheet.{Sheet}
use Rattle.sheet.specs.Format.{read_form}
use Rattle.sheet.specs.Tables.{sheet_in, Loaded}
use Rattle.sheet_reader.specs.Answers.{reading_of, ReadIs}
use Rattle.std.specs.Prelude.{⊤, Result, Ok, Err}
use Rattle.refusals.specs.declared.Refusal.{Refusal}
use Rattle.refusals.specs.Refusals.{refusal}
use Rattle.refusals.proofs.Results.{refused-by, Valued, value-by}
use Rattle.sheet.proofs.Rows.{sheet-frame, loaded-frame}
use Rattle.graph.specs.Graph.{circle, read_sheet}
use Rattle.workspace.specs.Found.{found_of}
use Rattle.levelling.specs.Found.{Levelled, LevelsAre}
use Rattle.levelling.specs.Opened.{OpenIs}
use Rattle.workspace.specs.Found.{Found}
use Rattle.std.specs.Prelude.{Some, None}

-- a refusal leaves nothing to say of the tables
open-refused : (a : Answer Sheet) (w last : List ℕ) (r e : ℕ) → length last ≡ length w → a ≡ refused r e → OpenIs a w last (Err (refusal r e))
open-refused a w last r e long h =
    record {
      long = long;
      answer = sym (ap reading_of h);
      loaded = λ s q. not-value (sym h ∙ q);
      held = λ s q. not-value (sym h ∙ q);
      levelled = λ s q. not-value (sym h ∙ q);
    }

module _ (w last : List ℕ) (f : Found) (l : Loaded w) (h : LevelsAre w last f) where
  pub open-circle : (t : ℕ) → f ≡ Some t → OpenIs (unless 10 (circle (sheet_in w)) (value (sheet_in w))) w last (Err (refusal 10 t))
  open-circle t e =
      open-refused (unless 10 (circle (sheet_in w)) (value (sheet_in w))) w last 10 t h.kept.long
      (ap (λ (o : Option ℕ). unless 10 o (value (sheet_in w))) (sym h.answer ∙ ap found_of e))

  pub open-levels : f ≡ None → OpenIs (unless 10 (circle (sheet_in w)) (value (sheet_in w))) w last (Ok tt)
  open-levels e =
      let clear : circle (sheet_in w) ≡ none = sym h.answer ∙ ap found_of e in
      let a : unless 10 (circle (sheet_in w)) (value (sheet_in w)) ≡ value (sheet_in w) = ap (λ (o : Option ℕ). unless 10 o (value (sheet_in w))) clear in
      record {
        long = h.kept.long;
        answer = sym (ap reading_of a);
        loaded = λ s q. loaded-frame w last h.kept.low l h.kept.long;
        held = λ s q. sheet-frame w last h.kept.low l.tasks l.links ∙ value_same (sym a ∙ q);
        levelled = λ s q. subst (λ (x : Sheet). Levelled x last) (value_same (sym a ∙ q)) (h.levels clear);
      }

module _ (b w mid : List ℕ) (o : Result ⊤ Refusal) (h : ReadIs (read_form b) w mid o) where
  pub form-refused : (r : Refusal) → o ≡ Err r → OpenIs (read_sheet b) w mid (Err r)
  unfolding read_sheet
  form-refused r q =
      open-refused (read_sheet b) w mid r.number r.place h.long
      (ap (λ (a : Answer Sheet). and_then a (λ s. unless 10 (circle s) (value s))) (refused-by (λ s. tt) (read_form b) r (sym q ∙ h.answer)))

  pub form-loaded : o ≡ Ok tt → Loaded mid
  form-loaded q = let s = value-by (λ s. tt) (read_form b) tt (sym q ∙ h.answer) in h.loaded s.x s.value

  pub form-opened : o ≡ Ok tt → (last : List ℕ) (r : Result ⊤ Refusal) → OpenIs (unless 10 (circle (sheet_in mid)) (value (sheet_in mid))) mid last r → OpenIs (read_sheet b) w last r
  unfolding read_sheet
  form-opened q last r k =
      let s = value-by (λ s. tt) (read_form b) tt (sym q ∙ h.answer) in
      let here : sheet_in mid ≡ s.x = h.held s.x s.value in
      let a : read_sheet b ≡ unless 10 (circle (sheet_in mid)) (value (sheet_in mid)) =
      ap (λ (x : Answer Sheet). and_then x (λ t. unless 10 (circle t) (value t))) s.value ∙ ap (λ (t : Sheet). unless 10 (circle t) (value t)) (sym here) in
      record {
        long = k.long ∙ h.long;
        answer = k.answer ∙ sym (ap reading_of a);
        loaded = λ t p. k.loaded t (sym a ∙ p);
        held = λ t p. k.held t (sym a ∙ p);
        levelled = λ t p. k.levelled t (sym a ∙ p);
      }

module _ {a : Answer Sheet} {w last : List ℕ} {o : Result ⊤ Refusal} (h : OpenIs a w last o) where
  pub open-refusal : (r : Refusal) → o ≡ Err r → a ≡ refused r.number r.place
  open-refusal r q = refused-by (λ s. tt) a r (sym q ∙ h.answer)

  module _ (q : o ≡ Ok tt) where
    opened : Valued {A = Sheet} {T = ⊤} (λ s. tt) a tt
    opened = value-by {A = Sheet} {T = ⊤} (λ s. tt) a tt (sym q ∙ h.answer)

    pub open-loaded : Loaded last
    open-loaded = h.loaded opened.x opened.value

    pub open-value : a ≡ value (sheet_in last)
    open-value = opened.value ∙ ap value (sym (h.held opened.x opened.value))

    pub open-levelled : Levelled (sheet_in last) last
    open-levelled = subst (λ (s : Sheet). Levelled s last) (sym (h.held opened.x opened.value)) (h.levelled opened.x opened.value)
