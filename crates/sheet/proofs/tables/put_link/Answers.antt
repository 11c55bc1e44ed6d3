-- `put_link` (src/tables.rt) keeps its contract.
use native.Mathlib.Omega.{arith}
use mathlib.Core.Path.{refl}
use lib.ListN.{length-set}
use Rattle.sheet.specs.Tables.{link_words}
use Rattle.sheet.proofs.tables.put_link.Goals as goal

pub bounds-w-m-2 : goal.bounds-w-m-2
bounds-w-m-2 c = simp length-set (omega arith)

pub bounds-w-1 : goal.bounds-w-1
bounds-w-1 c = simp length-set (omega arith)

pub returns : goal.returns
unfolding link_words
returns c = refl
