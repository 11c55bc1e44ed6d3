-- `fits_open` (src/lib.rt) keeps its contract.
use mathlib.Core.Path.{ap₂}
use Rattle.folds.specs.Folds.{both}
use Rattle.placing.proofs.Turn.fits_open.Goals as goal

pub returns : goal.returns
returns c = ap₂ both c.is_open.ensures c.fits_on.ensures
