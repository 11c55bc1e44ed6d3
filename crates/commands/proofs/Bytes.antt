-- A kind that a chain of tests tells of a byte is the kind of that byte.
use Prim.Native.Nat.{ℕ}
use mathlib.Core.Bool.{Bool, true, false}
use mathlib.Core.Option.{Option, some}
use mathlib.Core.Path.{◌≡◌, refl, ap, ◌∙◌}
use borrow.Author.Tests.{eqb-true}
use lib.Dec.{eqb}
use Rattle.folds.specs.Folds.{pick}

-- one test of the chain, and the rest of it
pub by_byte : {K : Type 0} (byte_of : K → ℕ) (c : ℕ) (k' k : K) (o : Option K) → (o ≡ some k → c ≡ byte_of k) → pick (eqb c (byte_of k')) (some k') o ≡ some k → c ≡ byte_of k
by_byte {K} byte_of c k' k o rest e = split (eqb c (byte_of k')) refl e
  where
    split : (t : Bool) → eqb c (byte_of k') ≡ t → pick t (some k') o ≡ some k → c ≡ byte_of k
    split true q e = let s : k' ≡ k = cc in eqb-true c (byte_of k') q ∙ ap byte_of s
    split false q e = rest e
