-- Of a sheet without `48` every verdict is what it was before C-20.
use mathlib.Core.Bool.{false}
use mathlib.Core.Path.{◌≡◌}
use Rattle.sheet.specs.Sheet.{Sheet}
use Rattle.bundle.specs.Bundle.{Bundle}
use Rattle.machine.proofs.Flat.{flat-settled}
use Rattle.checker.specs.Checker.{checked}
use Rattle.checker.specs.Flat.{checked_flat}

pub flat-verdicts : (s : Sheet) → s.cube ≡ false → (b : Bundle) → checked s b ≡ checked_flat s b
unfolding checked checked_flat
flat-verdicts s flat b = rw (flat-settled s flat b)
