-- `put_tasks` (src/writer.rt) keeps its contract: its loops.
use Rattle.sheet.specs.Writing.{task_value}
use Rattle.sheet.specs.Writing.{task_bytes}
use Rattle.folds.specs.Folds.{listed}
use Rattle.numbers.specs.Number.{stored}
use lib.ListN.{length}
use mathlib.Core.Path.{◌≡◌}
use Rattle.sheet_writer.proofs.writer.put_tasks.Given as goal

abbrev pub invariant-loop-i : goal.invariant-loop-i
invariant-loop-i l = (length l.out ≡ length l.initial.out) × (l.out ≡ stored l.initial.out 0 (task_bytes (listed l.i (task_value l.tasks))))
