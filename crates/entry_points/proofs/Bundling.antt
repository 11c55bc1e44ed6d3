-- From an opened sheet to the ends of a bundle's reading and writing.
use Rattle.std.specs.Prelude.{⊤, Result, Ok, Err}
use Rattle.refusals.specs.Refusals.{refusal}
use Rattle.refusals.specs.declared.Refusal.{Refusal}
use Rattle.bundle_writer.specs.declared.values.Copied.{Copied}
use Prim.Native.Nat.{ℕ}
use mathlib.Core.Path.{◌≡◌, refl, sym, ap, ◌∙◌}
use mathlib.Core.Bool.{Bool, true, false}
use mathlib.Core.List.{List}
use lib.ListN.{length}
use lib.Dec.{ltb}
use Rattle.folds.specs.Folds.{pick}
use Rattle.folds.specs.Answers.{Answer, value, refused, and_then, fitting, written}
use Rattle.sheet.specs.Sheet.{Sheet}
use Rattle.sheet.specs.Tables.{sheet_in}
use Rattle.levelling.specs.Opened.{OpenIs}
use Rattle.bundle.specs.Bundle.{Bundle}
use Rattle.bundle.specs.Format.{read_bundle}
use Rattle.bundle.specs.Writing.{bundle_values, value_bytes}
use Rattle.bundle_writer.specs.Whole.{read_values, write_values}
use Rattle.bundle.specs.Counts.{Sized}
use Rattle.bundle_writer.specs.Copies.{copied_of, ValuesIs}
use Rattle.bundle_writer.specs.Writes.{WriteIs}
use Rattle.entry_points.specs.Values.{command_table, claim_after, value_count}
use Rattle.entry_points.specs.Parts.{outcome_of, PartIs, BundleIs}
use Rattle.levelling.proofs.Opens.{open-value, open-refusal}
use Rattle.entry_points.proofs.Opening.{part-goes}

-- the bundle whose values fit, or 12
abbrev pub fitting_bundle : ℕ → Answer Bundle → Answer Bundle
fitting_bundle lent y = and_then y (λ x. and_then (fitting lent (bundle_values x)) (λ v. value x))

-- its values are what is copied
table : (lent : ℕ) (y : Answer Bundle) → and_then y (λ x. fitting lent (bundle_values x)) ≡ command_table (fitting_bundle lent y)
table lent (refused n at) = refl
table lent (value x) = split (ltb lent (length (bundle_values x)))
  where
    split : (t : Bool)
        → pick t (refused 12 (length (bundle_values x))) (value (bundle_values x))
        ≡ command_table (and_then (pick t (refused 12 (length (bundle_values x))) (value (bundle_values x))) (λ v. value x))
    split true = refl
    split false = refl

copied-refused : (lent : ℕ) (y : Answer Bundle) (r : Refusal) → Err r ≡ copied_of lent y → fitting_bundle lent y ≡ refused r.number r.place
unfolding copied_of
copied-refused lent (refused m e) r h = let p : r ≡ refusal m e = cc in sym (ap (λ (x : Refusal). refused x.number x.place) p)
copied-refused lent (value x) r h = split (ltb lent (length (bundle_values x))) h
  where
    made : Copied
    made = record { values = length (bundle_values x); claim = x.claim }

    split : (t : Bool) → Err r ≡ pick t (Err (refusal 12 (length (bundle_values x)))) (Ok made)
        → and_then (pick t (refused 12 (length (bundle_values x))) (value (bundle_values x))) (λ v. value x) ≡ refused r.number r.place
    split true g = let p : r ≡ refusal 12 (length (bundle_values x)) = cc in sym (ap (λ (y : Refusal). refused y.number y.place) p)
    split false g = absurd cc

copied-values : (lent : ℕ) (y : Answer Bundle) (u : Copied) → Ok u ≡ copied_of lent y → (x : Bundle) × (fitting_bundle lent y ≡ value x) × (u.values ≡ value_count x) × (u.claim ≡ x.claim)
unfolding copied_of
copied-values lent (refused m e) u h = absurd cc
copied-values lent (value x) u h = split (ltb lent (length (bundle_values x))) refl h
  where
    made : Copied
    made = record { values = length (bundle_values x); claim = x.claim }

    split : (t : Bool) → ltb lent (length (bundle_values x)) ≡ t → Ok u ≡ pick t (Err (refusal 12 (length (bundle_values x)))) (Ok made)
        → (z : Bundle) × (and_then (pick (ltb lent (length (bundle_values x))) (refused 12 (length (bundle_values x))) (value (bundle_values x))) (λ v. value x) ≡ value z) × (u.values ≡ value_count z) × (u.claim ≡ z.claim)
    split true q g = absurd cc
    split false q g = let p : u ≡ made = cc in (x, rw q, ap (λ (y : Copied). y.values) p, ap (λ (y : Copied). y.claim) p)

module _ (b c : List ℕ) (k : ℕ) {a : Answer Sheet} {work mid : List ℕ} {o : Result ⊤ Refusal} (h : OpenIs a work mid o) where
  pub bundle-refused : (r : Refusal) → o ≡ Err r → BundleIs (and_then a (λ s. and_then (read_bundle s b) (λ x. and_then (fitting (length c) (bundle_values x)) (λ v. value x)))) work mid c c k k (Err r)
  unfolding written
  bundle-refused r q =
      let v = ap (λ (x : Answer Sheet). and_then x (λ s. and_then (read_bundle s b) (λ x. and_then (fitting (length c) (bundle_values x)) (λ v. value x)))) (open-refusal h r q) in
      record {
        answer = sym (ap (outcome_of value_count) v);
        commands = sym (ap (λ (x : Answer Bundle). written c (command_table x)) v);
        claim = sym (ap (claim_after k) v);
        long = h.long;
      }

  module _ (q : o ≡ Ok tt) {p t l : ℕ} {last c' : List ℕ} {r : Result Copied Refusal} (z : Sized (sheet_in mid) p t l) (g : ValuesIs b p t l c c' mid last r) where
    here : and_then a (λ s. and_then (read_bundle s b) (λ x. and_then (fitting (length c) (bundle_values x)) (λ v. value x))) ≡ fitting_bundle (length c) (read_bundle (sheet_in mid) b)
    here = ap (λ (x : Answer Sheet). and_then x (λ s. and_then (read_bundle s b) (λ x. and_then (fitting (length c) (bundle_values x)) (λ v. value x)))) (open-value h q)

    output : c' ≡ written c (command_table (fitting_bundle (length c) (read_bundle (sheet_in mid) b)))
    unfolding read_values
    output = g.left (sheet_in mid) z ∙ ap (written c) (table (length c) (read_bundle (sheet_in mid) b))

    pub bundle-no : (x : Refusal) → r ≡ Err x → BundleIs (and_then a (λ s. and_then (read_bundle s b) (λ x. and_then (fitting (length c) (bundle_values x)) (λ v. value x)))) work last c c' k k (Err x)
    bundle-no x w =
        let v = here ∙ copied-refused (length c) (read_bundle (sheet_in mid) b) x (sym w ∙ g.answer (sheet_in mid) z) in
        record {
          answer = sym (ap (outcome_of value_count) v);
          commands = output ∙ sym (ap (λ (x : Answer Bundle). written c (command_table x)) here);
          claim = sym (ap (claim_after k) v);
          long = g.long ∙ h.long;
        }

    pub bundle-yes : (u : Copied) → r ≡ Ok u → BundleIs (and_then a (λ s. and_then (read_bundle s b) (λ x. and_then (fitting (length c) (bundle_values x)) (λ v. value x)))) work last c c' k u.claim (Ok u.values)
    bundle-yes u w =
        let x = copied-values (length c) (read_bundle (sheet_in mid) b) u (sym w ∙ g.answer (sheet_in mid) z) in
        let v = here ∙ x.1 in
        record {
          answer = ap Ok x.2 ∙ sym (ap (outcome_of value_count) v);
          commands = output ∙ sym (ap (λ (y : Answer Bundle). written c (command_table y)) here);
          claim = x.3 ∙ sym (ap (claim_after k) v);
          long = g.long ∙ h.long;
        }

-- the written bundle
pub writing-is : (vs out : List ℕ) (k : ℕ) {a : Answer Sheet} {work mid : List ℕ} {o : Result ⊤ Refusal} (h : OpenIs a work mid o) (q : o ≡ Ok tt) {p t l : ℕ} {out' : List ℕ} {r : Result ℕ Refusal} (z : Sized (sheet_in mid) p t l) (g : WriteIs vs k p t l out out' r)
    → PartIs (and_then a (λ s. and_then (read_bundle s (value_bytes vs k)) (λ b. fitting (length out) (value_bytes vs k)))) work mid out out' r
unfolding write_values
writing-is vs out k {mid = mid} h q {out' = out'} {r = r} z g =
    part-goes (λ s. write_values s vs k (length out)) h q mid out' r refl (g.answer (sheet_in mid) z) (g.left (sheet_in mid) z)
