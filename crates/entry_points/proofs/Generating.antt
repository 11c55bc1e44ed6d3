-- The sheet of a seed, from the tables to the output.
use Rattle.std.specs.Prelude.{Result, Ok, Err}
use Rattle.refusals.specs.Refusals.{refusal}
use Rattle.refusals.specs.declared.Refusal.{Refusal}
use Prim.Native.Nat.{ℕ, ◌<◌, ◌≤◌}
use native.Mathlib.Omega.{arith}
use mathlib.Core.Bool.{true, false}
use mathlib.Core.Path.{◌≡◌, refl, sym, ap, ◌∙◌}
use mathlib.Core.List.{List}
use lib.ListN.{length}
use Rattle.folds.specs.Answers.{Answer, value, refused, and_then, fitting, written}
use Rattle.numbers.specs.Number.{stored}
use Rattle.numbers.proofs.Puts.{kept, front, fits_not, fits-well}
use Rattle.sheet.specs.Sheet.{Sheet}
use Rattle.sheet.specs.Sizes.{size_of}
use Rattle.sheet.specs.Tables.{sheet_in, LoadedOf}
use Rattle.sheet.specs.Writing.{sheet_bytes}
use Rattle.sheet_reader.proofs.Backs.{sheet-length}
use Rattle.generator.specs.Load.{outside, sheet_from, generated}
use Rattle.generator.proofs.Ranges.{generated-no, generated-sheet}
use Rattle.entry_points.specs.Parts.{outcome_of, PartIs}

-- an answer that is known
part-is : {a : Answer (List ℕ)} (b : Answer (List ℕ)) {work mid out : List ℕ} → a ≡ b → length mid ≡ length work → (out' : List ℕ) (o : Result ℕ Refusal) → o ≡ outcome_of length b → out' ≡ written out b
    → PartIs a work mid out out' o
part-is b {work} {mid} {out} e long out' o p q = record { answer = p ∙ sym (ap (outcome_of length) e); output = q ∙ sym (ap (written out) e); long = long }

module _ (seed n m p l : ℕ) (work out : List ℕ) where
  abbrev answer : Answer (List ℕ)
  answer = and_then (generated seed n m p l) (λ s. fitting (length out) (sheet_bytes s))

  pub generate-refused : outside seed n m p ≡ true → PartIs answer work work out out (Err (refusal 6 0))
  generate-refused e =
      part-is (refused 6 0) (ap (λ (a : Answer Sheet). and_then a (λ s. fitting (length out) (sheet_bytes s))) (generated-no seed n m p l e)) refl out (Err (refusal 6 0)) refl (kept out 6 0)

  -- the tables hold the sheet, and k is how many bytes it has
  module _ {mid : List ℕ} (k : ℕ) (inside : outside seed n m p ≡ false) (h : LoadedOf (sheet_from seed n p l m) work mid) (count : k ≡ size_of (sheet_in mid)) where
    long-is : k ≡ length (sheet_bytes (sheet_in mid))
    long-is = count ∙ sym (sheet-length (sheet_in mid))

    goes : answer ≡ fitting (length out) (sheet_bytes (sheet_in mid))
    goes =
        ap (λ (a : Answer Sheet). and_then a (λ s. fitting (length out) (sheet_bytes s))) (generated-sheet seed n m p l inside)
        ∙ ap (λ (s : Sheet). fitting (length out) (sheet_bytes s)) (sym h.sheet)

    pub generate-short : length out < k → PartIs answer work mid out out (Err (refusal 12 k))
    generate-short less =
        let bytes = sheet_bytes (sheet_in mid) in
        part-is (refused 12 (length bytes)) (goes ∙ fits_not (length out) bytes (omega (arith, long-is))) h.long out (Err (refusal 12 k)) (ap (λ (i : ℕ). Err (refusal 12 i)) long-is) (kept out 12 (length bytes))

    pub generate-done : k ≤ length out → (out' : List ℕ) → out' ≡ stored out 0 (sheet_bytes (sheet_in mid)) → PartIs answer work mid out out' (Ok k)
    generate-done room out' put =
        let bytes = sheet_bytes (sheet_in mid) in
        part-is (value bytes) (goes ∙ fits-well (length out) bytes (omega (arith, long-is))) h.long out' (Ok k) (ap Ok long-is) (put ∙ front out bytes)
