-- The ways in which reading a bundle's values ends.
use Prim.Native.Nat.{ℕ, ◌+◌, ◌*◌, ◌<◌, ◌≤◌}
use mathlib.Core.Path.{◌≡◌, sym, ap, ap₂, ◌∙◌}
use mathlib.Core.List.{List}
use native.Mathlib.Omega.{arith}
use borrow.Author.Tests.{lt-ltb, le-ltb}
use lib.ListN.{length}
use Rattle.folds.specs.Answers.{refused, written}
use Rattle.sheet.specs.Sheet.{Sheet}
use Rattle.bundle.specs.Format.{read_bundle}
use Rattle.bundle.specs.Writing.{bundle_values}
use Rattle.bundle.specs.Counts.{Sized}
use Rattle.bundle_writer.specs.Whole.{read_values}
use Rattle.bundle_writer.specs.Writes.{Small, Counted}
use Rattle.bundle_reader.specs.ReadIs.{ReadIs}
use Rattle.bundle_writer.specs.Copies.{Copyable, CopyIs, copied_of, ValuesIs}
use Rattle.bundle_reader.specs.declared.bytes.Outline.{Outline}
use Rattle.bundle_writer.specs.declared.values.Copied.{Copied}
use Rattle.std.specs.Prelude.{Result, Ok, Err}
use Rattle.refusals.specs.Refusals.{refusal}
use Rattle.refusals.specs.declared.Refusal.{Refusal}
use Rattle.bundle.proofs.Faults.{sheet_by, sized-by}
use Rattle.bundle_reader.proofs.Told.{told-holds, length-values}

pub small_by : {s : Sheet} {p t l : ℕ} → Sized s p t l → Counted p t l → Small s
small_by z c = record { processors = omega (arith, z.processors, c.processors); tasks = omega (arith, z.tasks, c.tasks); links = omega (arith, z.links, c.links) }

module _ {b : List ℕ} {p t l : ℕ} {words after : List ℕ} {f : Result Outline Refusal} (g : ReadIs b p t l words after f) (old : List ℕ) where
  pub values-refused : (r : Refusal) → ((s : Sheet) → Sized s p t l → read_bundle s b ≡ refused r.number r.place) → ValuesIs b p t l old old words after (Err r)
  unfolding copied_of read_values written
  values-refused r h =
      record {
        answer = λ s z. sym (ap (copied_of (length old)) (h s z));
        left = λ s z. rw (h s z);
        long = g.long;
        rest = g.rest;
      }

  module _ (o : Outline) (e : f ≡ Ok o) where
    -- how many values there are
    need : (s : Sheet) (z : Sized s p t l) → 2 * (o.programmes + o.commands) ≡ length (bundle_values (told-holds g o e s z).bundle)
    need s z =
        let h = told-holds g o e s z in
        omega (arith, length-values h.bundle, h.programmes, h.commands)

    pub values-short : length old < 2 * (o.programmes + o.commands) → ValuesIs b p t l old old words after (Err (refusal 12 (2 * (o.programmes + o.commands))))
    unfolding copied_of read_values written
    values-short k =
        record {
          answer = λ s z.
              let h = told-holds g o e s z in
              ap (λ (i : ℕ). Err (refusal 12 i)) (need s z) ∙ sym (ap (copied_of (length old)) h.reads ∙ rw (lt-ltb (length old) (length (bundle_values h.bundle)) (omega (arith, need s z))));
          left = λ s z.
              let h = told-holds g o e s z in
              rw (h.reads, lt-ltb (length old) (length (bundle_values h.bundle)) (omega (arith, need s z)));
          long = g.long;
          rest = g.rest;
        }

    pub values-copyable : Counted p t l → 2 * (o.programmes + o.commands) ≤ length old → Copyable b old
    values-copyable q k =
        let s = sheet_by p t l in
        let z = sized-by p t l in
        let h = told-holds g o e s z in
        record { sheet = s; small = small_by z q; bundle = h.bundle; reads = h.reads; room = omega (arith, need s z) }

    pub values-copied : Counted p t l → 2 * (o.programmes + o.commands) ≤ length old → (last : List ℕ) → CopyIs b old last → ValuesIs b p t l old last words after (Ok (record { values = 2 * (o.programmes + o.commands); claim = o.claim }))
    unfolding copied_of read_values written
    values-copied q k last w =
        record {
          answer = λ s z.
              let h = told-holds g o e s z in
              ap₂ {C = Result Copied Refusal} (λ (i j : ℕ). Ok (record { values = i; claim = j })) (need s z) h.claimed ∙ sym (ap (copied_of (length old)) h.reads ∙ rw (le-ltb (length old) (length (bundle_values h.bundle)) (omega (arith, need s z))));
          left = λ s z.
              let h = told-holds g o e s z in
              w.left s (small_by z q) h.bundle h.reads ∙ sym (rw (h.reads, le-ltb (length old) (length (bundle_values h.bundle)) (omega (arith, need s z))));
          long = g.long;
          rest = g.rest;
        }
