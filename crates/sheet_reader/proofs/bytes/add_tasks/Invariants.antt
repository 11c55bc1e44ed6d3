-- `add_tasks` (src/bytes.rt) keeps its contract: its loops.
use Prim.Native.Nat.{◌+◌, ◌-◌, ◌*◌}
use Rattle.sheet_reader.specs.Scanning.{BoardRead, Walking}
use Rattle.sheet.specs.Format.{read_form}
use Rattle.sheet.specs.Sizes.{task_size}
use lib.ListN.{length}
use mathlib.Core.Path.{◌≡◌}
use Rattle.sheet_reader.proofs.bytes.add_tasks.Given as goal

abbrev pub invariant-loop-w : goal.invariant-loop-w
invariant-loop-w l = Walking (read_form l.bytes) l.bytes l.initial.w l.w l.tasks 0 l.at × BoardRead l.bytes l.w l.at × (l.at ≡ l.start + task_size * l.tasks)

abbrev pub decreases-loop-w : goal.decreases-loop-w
decreases-loop-w l = length l.bytes - l.at
