-- `limit` (src/tables.rt) keeps its contract.
use Rattle.sheet.specs.Tables.{sheet_in}
use Rattle.sheet.proofs.tables.limit.Goals as goal

pub returns : goal.returns
unfolding sheet_in
returns c = c.word.ensures
