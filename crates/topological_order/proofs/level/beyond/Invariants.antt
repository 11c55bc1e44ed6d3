-- `beyond` (src/level.rt) keeps its contract: its loops.
use Prim.Native.Nat.{◌-◌, ◌<◌, ◌≤◌}
use mathlib.Core.Path.{◌≡◌}
use Rattle.folds.specs.Folds.{greatest}
use Rattle.sheet.specs.Sheet.{link_count, source_of}
use Rattle.sheet.specs.Tables.{sheet_in}
use Rattle.graph.specs.Graph.{level_by}
use Rattle.topological_order.specs.Peeling.{level_in}
use Rattle.topological_order.proofs.level.beyond.Given as goal

abbrev pub invariant-loop-l : goal.invariant-loop-l
invariant-loop-l l = (l.l ≤ l.m) × (l.l < link_count (sheet_in l.w) → source_of (sheet_in l.w) l.l ≡ l.v) × (l.best ≡ greatest l.l (level_by (sheet_in l.w) (level_in l.w) l.v))

abbrev pub decreases-loop-l : goal.decreases-loop-l
decreases-loop-l l = l.m - l.l
