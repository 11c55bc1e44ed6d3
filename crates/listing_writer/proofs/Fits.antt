-- A listing in the output: too long for it, or at its front.
use Prim.Native.Nat.{ℕ, ◌≤◌, ◌<◌}
use mathlib.Core.Path.{◌≡◌, sym, ap, ◌∙◌}
use mathlib.Core.List.{List}
use native.Mathlib.Omega.{arith}
use lib.ListN.{length}
use Rattle.folds.specs.Answers.{fitting, written}
use Rattle.numbers.specs.Number.{Put}
use Rattle.numbers.proofs.Puts.{kept, front, fits_not, fits-well}
use Rattle.std.specs.Prelude.{Ok, Err}
use Rattle.refusals.specs.Refusals.{refusal, written_of}
use Rattle.listing_writer.specs.Listed.{FitIs}

module _ (v out : List ℕ) (n : ℕ) (e : n ≡ length v) (s : n ≤ 21551) where
  pub fit-short : length out < n → FitIs v out out (Err (refusal 12 n))
  fit-short h =
      let b = fits_not (length out) v (omega arith) in
      record { answer = ap (λ (i : ℕ). Err (refusal 12 i)) e ∙ sym (ap written_of b); output = kept out 12 (length v) ∙ sym (ap (written out) b); short = omega arith }

  pub fit-long : n ≤ length out → (out' : List ℕ) {r : ℕ} → Put out 0 v out' r → FitIs v out out' (Ok n)
  fit-long h out' p =
      let b = fits-well (length out) v (omega arith) in
      record { answer = ap Ok e ∙ sym (ap written_of b); output = p.left ∙ front out v ∙ sym (ap (written out) b); short = omega arith }

-- written at once, where n bytes are enough for it and are there
pub fit-enough : {v out out' : List ℕ} {r n : ℕ} → length v ≤ n → n ≤ 21551 → n ≤ length out → Put out 0 v out' r → FitIs v out out' (Ok r)
fit-enough {v} {out} {out'} {r} l s h p =
    let e : r ≡ length v = omega (arith, p.next) in
    fit-long v out r e (omega arith) (omega arith) out' p

-- what was listed, by another name
pub fit-as : {u v out out' : List ℕ} {r : _} → u ≡ v → FitIs u out out' r → FitIs v out out' r
fit-as {out = out} e h =
    record {
      answer = h.answer ∙ ap (λ (x : List ℕ). written_of (fitting (length out) x)) e;
      output = h.output ∙ ap (λ (x : List ℕ). written out (fitting (length out) x)) e;
      short = omega (arith, h.short, ap length e);
    }
