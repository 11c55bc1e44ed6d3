-- What holds of each element of lists that are gathered.
use Prim.Native.Nat.{ℕ, zero, suc, ◌<◌}
use native.Mathlib.Omega.{arith}
use mathlib.Core.List.{List}
use Rattle.folds.specs.Folds.{gather}
use Rattle.bundle.specs.Fits.{Each}
use Rattle.bundle.proofs.Parts.{each_append}

pub each-gather : {A : Type 0} (P : A → Type 0) (n : ℕ) (g : ℕ → List A) → ((i : ℕ) → i < n → Each P (g i)) → Each P (gather n g)
unfolding gather
each-gather P zero g h = tt
each-gather P (suc n) g h = each_append P (gather n g) (g n) (each-gather P n g (λ i l. h i (omega arith))) (h n (omega arith))
