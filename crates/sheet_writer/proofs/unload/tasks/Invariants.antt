-- `tasks` (src/unload.rt) keeps its contract: its loops.
use Rattle.folds.specs.Folds.{listed}
use Rattle.numbers.specs.Number.{stored}
use Rattle.sheet.specs.Tables.{task_in}
use Rattle.sheet.specs.Writing.{task_values}
use lib.ListN.{length}
use mathlib.Core.Path.{◌≡◌}
use Rattle.sheet_writer.proofs.unload.tasks.Given as goal

abbrev pub invariant-loop-i : goal.invariant-loop-i
invariant-loop-i l = (length l.out ≡ length l.initial.out) × (l.out ≡ stored l.initial.out 0 (task_values (listed l.i (task_in l.w))))
