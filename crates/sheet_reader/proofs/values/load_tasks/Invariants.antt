-- `load_tasks` (src/values.rt) keeps its contract: its loops.
use Prim.Native.Nat.{◌*◌, ◌+◌, ◌-◌, ◌/◌, ◌≤◌}
use Rattle.folds.proofs.Lists.{rest}
use Rattle.sheet_reader.proofs.Given.{task_tail}
use Rattle.sheet_reader.specs.Scanning.{Scanning, read_on}
use Rattle.sheet.specs.Writing.{task_bytes, task_value, task_value_bytes}
use Rattle.sheet.specs.Sizes.{task_size}
use lib.ListN.{length}
use mathlib.Core.List.{◌++◌}
use mathlib.Core.Path.{◌≡◌}
use Rattle.sheet_reader.proofs.values.load_tasks.Given as goal

abbrev pub invariant-loop-i : goal.invariant-loop-i
invariant-loop-i l = (l.n ≡ length l.tasks / 2) × (l.i ≤ l.n) × Scanning (read_on l.initial.w (task_value_bytes l.tasks l.links) l.start) (task_bytes (rest l.i (length l.tasks / 2 - l.i) (task_value l.tasks)) ++ task_tail l.tasks l.links) l.initial.w l.w l.i 0 (l.start + task_size * l.i)
