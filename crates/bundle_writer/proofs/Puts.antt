-- The bytes that are put for a command, store by store.
use Prim.Native.Nat.{ℕ, ◌+◌, ◌%◌, ◌≤◌}
use mathlib.Core.Path.{◌≡◌, refl, sym, ap, ◌∙◌}
use mathlib.Core.Bool.{Bool, true, false}
use mathlib.Core.List.{List, [], ◌∷◌}
use native.Mathlib.Omega.{arith}
use lib.ListN.{length, set}
use Rattle.folds.specs.Folds.{pick}
use Rattle.numbers.specs.Number.{number_bytes, stored}
use Rattle.numbers.proofs.Laws.{stored_one, stored-two, stored-then}
use Rattle.bundle.specs.Kinds.{is_message}
use Rattle.bundle_writer.specs.Writes.{put_bytes, PutIs}

pub put-message : (old last : List ℕ) (at c x : ℕ) → at + 3 ≤ length old → is_message c ≡ true
    → last ≡ stored (set old at (c % 256)) (at + 1) (number_bytes 2 x) → PutIs old last at c x (at + 3)
unfolding put_bytes
put-message old last at c x h m e =
    record {
      left =
          stored-then old (set old at (c % 256)) last at (at + 1) (c % 256 ∷ []) (number_bytes 2 x) (stored_one old at (c % 256) (omega arith)) e refl (omega arith)
          ∙ ap (λ (t : Bool). stored old at (c % 256 ∷ pick t (number_bytes 2 x) (x % 256 ∷ []))) (sym m);
      next = ap (λ (t : Bool). at + length (c % 256 ∷ pick t (number_bytes 2 x) (x % 256 ∷ []))) (sym m);
    }

pub put-short : (old : List ℕ) (at c x : ℕ) → at + 3 ≤ length old → is_message c ≡ false
    → PutIs old (set (set old at (c % 256)) (at + 1) (x % 256)) at c x (at + 2)
unfolding put_bytes
put-short old at c x h m =
    record {
      left =
          stored-two old at (c % 256) (x % 256) (omega arith)
          ∙ ap (λ (t : Bool). stored old at (c % 256 ∷ pick t (number_bytes 2 x) (x % 256 ∷ []))) (sym m);
      next = ap (λ (t : Bool). at + length (c % 256 ∷ pick t (number_bytes 2 x) (x % 256 ∷ []))) (sym m);
    }
