-- The checker of any bytes: 1 to 10 first, and then by the sheet that was read.
use Prim.Native.Nat.{ℕ}
use mathlib.Core.Path.{◌≡◌, sym, ap, ◌∙◌}
use mathlib.Core.List.{List}
use Rattle.folds.specs.Answers.{Answer, and_then}
use Rattle.sheet.specs.Sheet.{Sheet}
use Rattle.std.specs.Prelude.{⊤, Result, Ok, Err}
use Rattle.refusals.specs.declared.Refusal.{Refusal}
use Rattle.graph.specs.Graph.{read_sheet}
use Rattle.levelling.specs.Opened.{OpenIs}
use Rattle.levelling.proofs.Opens.{open-refusal, open-value}
use Rattle.bundle.specs.Format.{read_bundle}
use Rattle.checker.specs.Checker.{checked, check}
use Rattle.checker.specs.Verdicts.{verdict_of, checked_bytes, CheckIs, BytesIs}

module _ (sheet bundle work mid : List ℕ) {o : Result ⊤ Refusal} (h : OpenIs (read_sheet sheet) work mid o) where
  pub sheet-refused : (r : Refusal) → o ≡ Err r → BytesIs sheet bundle work mid (Err r)
  unfolding check
  sheet-refused r q =
      record {
        long = h.long;
        is = sym (ap (λ (x : Answer Sheet). verdict_of (and_then x (λ s. and_then (read_bundle s bundle) (checked s)))) (open-refusal h r q));
      }

  pub sheet-opened : o ≡ Ok tt → (last : List ℕ) (v : Result ⊤ Refusal) → CheckIs bundle mid last v → BytesIs sheet bundle work last v
  unfolding check checked_bytes
  sheet-opened q last v g =
      let e = open-value h q in
      record {
        long = g.long ∙ h.long;
        is =
            g.is
            ∙ sym (ap (λ (x : Answer Sheet). verdict_of (and_then x (λ s. and_then (read_bundle s bundle) (checked s)))) e);
      }
