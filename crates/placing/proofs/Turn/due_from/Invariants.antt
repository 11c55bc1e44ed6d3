-- `due_from` (src/lib.rt) keeps its contract: its loops.
use Prim.Native.Nat.{◌*◌, ◌-◌, ◌<◌, ◌≤◌}
use mathlib.Core.Path.{◌≡◌}
use Rattle.placing.specs.Choosing.{due_by}
use Rattle.sheet.specs.Sheet.{link_count, source_of}
use Rattle.placing.specs.Turn.{sheet_of, schedule_of}
use Rattle.folds.specs.Folds.{sum}
use Rattle.placing.proofs.Turn.due_from.Given as goal

abbrev pub invariant-loop-l : goal.invariant-loop-l
invariant-loop-l l = (l.l ≤ l.m) × (l.l < link_count (sheet_of l.self) → source_of (sheet_of l.self) l.l ≡ l.self.t) × (l.due ≡ sum l.l (due_by (sheet_of l.self) (schedule_of l.self) l.self.t l.from)) × (l.due ≤ 4294967295 * l.l)

abbrev pub decreases-loop-l : goal.decreases-loop-l
decreases-loop-l l = l.m - l.l
