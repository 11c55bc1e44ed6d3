-- The ways in which writing a bundle from its values ends.
use Prim.Native.Nat.{ℕ, ◌<◌, ◌≤◌}
use mathlib.Core.Path.{◌≡◌, sym, ap, ◌∙◌}
use mathlib.Core.List.{List, ◌++◌}
use native.Mathlib.Omega.{arith}
use borrow.Author.Tests.{lt-ltb, le-ltb}
use lib.ListN.{length, drop}
use Rattle.folds.specs.Answers.{Answer, value, refused, written}
use Rattle.sheet.specs.Sheet.{Sheet}
use Rattle.bundle.specs.Bundle.{Bundle}
use Rattle.bundle.specs.Format.{read_bundle}
use Rattle.bundle.specs.Writing.{value_bytes}
use Rattle.bundle.specs.Counts.{Sized}
use Rattle.bundle_writer.specs.Whole.{write_values}
use Rattle.bundle_writer.specs.Writes.{Counted, Writable, judged_of, RefusalIs, WriteIs}
use Rattle.std.specs.Prelude.{Result, Ok, Err}
use Rattle.refusals.specs.Refusals.{refusal}
use Rattle.refusals.specs.declared.Refusal.{Refusal}
use Rattle.refusals.proofs.Results.{refused-by, value-by}
use Rattle.bundle.proofs.Faults.{sheet_by, sized-by}
use Rattle.bundle_writer.proofs.Valued.{small_by}

-- the values are read back, and have so many bytes
record Accepted (a : Answer Bundle) (b : List ℕ) (n : ℕ) : Type 0 where
  bundle : Bundle
  reads : a ≡ value bundle
  size : n ≡ length b

judged-accepted : (b : List ℕ) (a : Answer Bundle) (n : ℕ) → Ok n ≡ judged_of b a → Accepted a b n
judged-accepted b a n e = let v = value-by (λ x. length b) a n e in record { bundle = v.x; reads = v.value; size = v.is }

module _ {vs : List ℕ} {p t l : ℕ} {f : Result ℕ Refusal} (g : RefusalIs vs p t l f) (claim : ℕ) (few : claim < 4294967296) (old : List ℕ) where
  pub writes-refused : (r : Refusal) → f ≡ Err r → WriteIs vs claim p t l old old (Err r)
  unfolding write_values written
  writes-refused r e =
      let h : (s : Sheet) → Sized s p t l → read_bundle s (value_bytes vs claim) ≡ refused r.number r.place =
      λ s z. refused-by (λ x. length (value_bytes vs claim)) (read_bundle s (value_bytes vs claim)) r (sym e ∙ g.answer s z claim few)
      in
      record { answer = λ s z. rw (h s z); left = λ s z. rw (h s z) }

  module _ (n : ℕ) (e : f ≡ Ok n) where
    accepted : (s : Sheet) → Sized s p t l → Accepted (read_bundle s (value_bytes vs claim)) (value_bytes vs claim) n
    accepted s z = judged-accepted (value_bytes vs claim) (read_bundle s (value_bytes vs claim)) n (sym e ∙ g.answer s z claim few)

    pub writes_short : length old < n → WriteIs vs claim p t l old old (Err (refusal 12 n))
    unfolding write_values written
    writes_short k =
        record {
          answer = λ s z.
              let h = accepted s z in
              ap (λ (i : ℕ). Err (refusal 12 i)) h.size ∙ sym (rw (h.reads, lt-ltb (length old) (length (value_bytes vs claim)) (omega (arith, h.size))));
          left = λ s z.
              let h = accepted s z in
              rw (h.reads, lt-ltb (length old) (length (value_bytes vs claim)) (omega (arith, h.size)));
        }

    pub writes-ready : Counted p t l → n ≤ length old → Writable vs claim old
    writes-ready q k =
        let s = sheet_by p t l in
        let z = sized-by p t l in
        let h = accepted s z in
        record { sheet = s; small = small_by z q; bundle = h.bundle; reads = h.reads; room = omega (arith, h.size) }

    pub writes-long : n ≤ length old → (last : List ℕ) → last ≡ value_bytes vs claim ++ drop (length (value_bytes vs claim)) old → WriteIs vs claim p t l old last (Ok n)
    unfolding write_values written
    writes-long k last w =
        record {
          answer = λ s z.
              let h = accepted s z in
              ap Ok h.size ∙ sym (rw (h.reads, le-ltb (length old) (length (value_bytes vs claim)) (omega (arith, h.size))));
          left = λ s z.
              let h = accepted s z in
              w ∙ sym (rw (h.reads, le-ltb (length old) (length (value_bytes vs claim)) (omega (arith, h.size))));
        }
