-- `copy_levels` (src/sheets.rt) keeps its contract: its loops.
use Rattle.folds.specs.Folds.{listed}
use Rattle.graph.specs.Graph.{level}
use Rattle.numbers.specs.Number.{stored}
use Rattle.sheet.specs.Sheet.{task_count}
use Rattle.sheet.specs.Tables.{sheet_in}
use Prim.Native.Nat.{◌≤◌}
use lib.ListN.{length}
use mathlib.Core.Path.{◌≡◌}
use Rattle.entry_points.proofs.sheets.copy_levels.Given as goal

abbrev pub invariant-loop-t : goal.invariant-loop-t
invariant-loop-t l = (l.t ≤ task_count (sheet_in l.w)) × (length l.out ≡ length l.initial.out) × (l.out ≡ stored l.initial.out 0 (listed l.t (level (sheet_in l.w))))
