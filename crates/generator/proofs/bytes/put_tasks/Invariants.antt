-- `put_tasks` (src/bytes.rt) keeps its contract: its loops.
use Rattle.std.proofs.Common.{◌≡◌, length}
use Rattle.folds.specs.Folds.{listed}
use Rattle.numbers.specs.Number.{stored}
use Rattle.sheet.specs.Tables.{task_in}
use Rattle.sheet.specs.Writing.{task_bytes}
use Rattle.generator.proofs.bytes.put_tasks.Given as goal

abbrev pub invariant-loop-i : goal.invariant-loop-i
invariant-loop-i l = (length l.out ≡ length l.initial.out) × (l.out ≡ stored l.initial.out 0 (task_bytes (listed l.i (task_in l.w))))
