-- `front` (src/tables.rt) keeps its contract.
use mathlib.Core.Path.{◌∙◌, ap₂}
use Rattle.sheet.specs.Sizes.{front_by}
use Rattle.sheet.proofs.tables.front.Goals as goal

pub returns : goal.returns
returns c = (c.front.ensures.0 ∙ ap₂ front_by c.unpacking.ensures.0 c.cube.ensures, c.front.ensures.1)
