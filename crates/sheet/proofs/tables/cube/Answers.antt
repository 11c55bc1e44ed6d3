-- `cube` (src/tables.rt) keeps its contract.
use mathlib.Core.Path.{ap}
use lib.Dec.{eqb}
use Rattle.sheet.specs.Tables.{sheet_in}
use Rattle.sheet.proofs.tables.cube.Goals as goal

pub returns : goal.returns
unfolding sheet_in
returns c = ap (λ x. eqb x 1) c.word.ensures.0
