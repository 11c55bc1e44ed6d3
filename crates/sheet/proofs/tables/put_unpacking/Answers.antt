-- `put_unpacking` (src/tables.rt) keeps its contract.
use mathlib.Core.Path.{refl}
use Rattle.sheet.specs.Tables.{unpacking_words}
use Rattle.sheet.proofs.tables.put_unpacking.Goals as goal

pub returns : goal.returns
unfolding unpacking_words
returns c = refl
