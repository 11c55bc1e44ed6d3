-- What was found, by its variant.
use Prim.Native.Nat.{ℕ, ◌<◌}
use mathlib.Core.Path.{◌≡◌, subst}
use Rattle.workspace.specs.Found.{Below}
use Rattle.workspace.specs.Found.{Found}
use Rattle.std.specs.Prelude.{Some}

pub below_at : (n : ℕ) {f : Found} {b : ℕ} → f ≡ Some b → Below n f → b < n
below_at n e h = subst (Below n) e h
