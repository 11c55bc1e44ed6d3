-- `put_cube` (src/tables.rt) keeps its contract.
use mathlib.Core.Path.{refl}
use Rattle.sheet.specs.Tables.{cube_words}
use Rattle.sheet.proofs.tables.put_cube.Goals as goal

pub returns : goal.returns
unfolding cube_words
returns c = refl
