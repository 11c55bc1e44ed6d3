-- `put_task` (src/tables.rt) keeps its contract.
use native.Mathlib.Omega.{arith}
use mathlib.Core.Path.{refl}
use lib.ListN.{length-set}
use Rattle.sheet.specs.Tables.{task_words}
use Rattle.sheet.proofs.tables.put_task.Goals as goal

pub bounds-w-0 : goal.bounds-w-0
bounds-w-0 c = simp length-set (omega arith)

pub returns : goal.returns
unfolding task_words
returns c = refl
