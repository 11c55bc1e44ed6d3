-- `processors` (src/tables.rt) keeps its contract.
use native.Mathlib.Omega.{arith}
use Rattle.sheet.specs.Tables.{sheet_in}
use Rattle.sheet.proofs.tables.processors.Goals as goal

pub returns : goal.returns
unfolding sheet_in
returns c = (c.word.ensures.0, omega (arith, c.word.ensures.0, c.requires.processors))
