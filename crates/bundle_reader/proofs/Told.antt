-- What the reader's answer tells of the bytes, and how many values a bundle has.
use Prim.Native.Nat.{ℕ, suc, ◌+◌, ◌*◌}
use mathlib.Core.Path.{ap, ◌≡◌, refl, sym, ◌∙◌}
use mathlib.Core.List.{List, [], ◌∷◌}
use native.Mathlib.Omega.{arith}
use lib.ListN.{length, length-append}
use Rattle.folds.specs.Answers.{Answer, value, refused}
use Rattle.sheet.specs.Sheet.{Sheet}
use Rattle.bundle.specs.Bundle.{Command, run, send, receive, release, discard, Bundle, programme_count}
use Rattle.bundle.specs.Format.{read_bundle}
use Rattle.bundle.specs.Writing.{programme_values, programmes_values, bundle_values}
use Rattle.bundle.specs.Counts.{Sized, commands_in, command_count}
use Rattle.bundle_reader.specs.ReadIs.{ReadIs}
use Rattle.bundle_reader.specs.Answers.{outline_of}
use Rattle.bundle_reader.specs.declared.bytes.Outline.{Outline}
use Rattle.refusals.specs.declared.Refusal.{Refusal}
use Rattle.refusals.proofs.Results.{refused-by, value-by}
use Rattle.std.specs.Prelude.{Result, Ok, Err}

-- the bytes are read as a bundle of n programmes with m commands and the claim c
pub record Holds (a : Answer Bundle) (n m c : ℕ) : Type 0 where
  pub bundle : Bundle
  pub reads : a ≡ value bundle
  pub programmes : n ≡ programme_count bundle
  pub commands : m ≡ command_count bundle
  pub claimed : c ≡ bundle.claim

module _ {b : List ℕ} {p t l : ℕ} {v last : List ℕ} {f : Result Outline Refusal} (g : ReadIs b p t l v last f) where
  pub told-holds : (o : Outline) → f ≡ Ok o → (s : Sheet) → Sized s p t l → Holds (read_bundle s b) o.programmes o.commands o.claim
  unfolding outline_of
  told-holds o e s z =
      let h = value-by outline_of (read_bundle s b) o (sym e ∙ g.answer s z) in
      record { bundle = h.x; reads = h.value; programmes = ap (λ (x : Outline). x.programmes) h.is; commands = ap (λ (x : Outline). x.commands) h.is; claimed = ap (λ (x : Outline). x.claim) h.is }

  pub told-refused : (r : Refusal) → f ≡ Err r → (s : Sheet) → Sized s p t l → read_bundle s b ≡ refused r.number r.place
  told-refused r e s z = refused-by outline_of (read_bundle s b) r (sym e ∙ g.answer s z)

length-programme : (p : List Command) → length (programme_values p) ≡ 2 * length p
length-programme [] = refl
length-programme (run x ∷ p) = omega (arith, length-programme p)
length-programme (send x ∷ p) = omega (arith, length-programme p)
length-programme (receive x ∷ p) = omega (arith, length-programme p)
length-programme (release x ∷ p) = omega (arith, length-programme p)
length-programme (discard x ∷ p) = omega (arith, length-programme p)

length-programmes : (k : ℕ) (ps : List (List Command)) → length (programmes_values k ps) ≡ 2 * (length ps + commands_in ps)
length-programmes k [] = refl
length-programmes k (p ∷ ps) =
    omega (arith, length-append (programme_values p) (programmes_values (suc k) ps), length-programme p, length-programmes (suc k) ps)

-- two values for each programme and for each command
pub length-values : (x : Bundle) → length (bundle_values x) ≡ 2 * (programme_count x + command_count x)
unfolding bundle_values programme_count command_count
length-values x = length-programmes 0 x.programmes
