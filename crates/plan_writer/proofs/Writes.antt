-- The ways in which writing a bundle ends.
use Prim.Native.Nat.{ℕ, ◌≤◌, ◌<◌}
use mathlib.Core.Path.{◌≡◌, sym, ap, ◌∙◌}
use mathlib.Core.List.{List}
use native.Mathlib.Omega.{arith}
use lib.ListN.{length}
use Rattle.folds.specs.Answers.{Answer, refused, fitting, written}
use Rattle.numbers.specs.Number.{stored}
use Rattle.numbers.proofs.Puts.{front, fits_not, fits-well}
use Rattle.std.specs.Prelude.{Ok, Err}
use Rattle.refusals.specs.Refusals.{refusal, written_of, WriteIs}

pub write-refused : (old : List ℕ) {a : Answer (List ℕ)} {n at : ℕ} → a ≡ refused n at → WriteIs a old old (Err (refusal n at))
unfolding written
write-refused old e = record { answer = sym (ap written_of e); left = sym (ap (written old) e) }

pub write-short : (b old : List ℕ) (n : ℕ) → n ≡ length b → length old < n → WriteIs (fitting (length old) b) old old (Err (refusal 12 n))
write-short b old n e h = write-refused old (fits_not (length old) b (omega arith) ∙ ap (refused 12) (sym e))

pub write-long : (b old last : List ℕ) (n : ℕ) → n ≡ length b → n ≤ length old → last ≡ stored old 0 b → WriteIs (fitting (length old) b) old last (Ok n)
write-long b old last n e h p =
    let a = fits-well (length old) b (omega arith) in
    record { answer = ap Ok e ∙ sym (ap written_of a); left = p ∙ front old b ∙ sym (ap (written old) a) }
