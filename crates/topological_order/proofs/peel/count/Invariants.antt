-- `count` (src/peel.rt) keeps its contract: its loops.
use Rattle.topological_order.specs.Words.{Outside}
use Rattle.topological_order.specs.Peeling.{Counted}
use Rattle.sheet.specs.Tables.{sheet_in}
use Rattle.sheet.specs.Sheet.{task_count}
use Rattle.topological_order.proofs.peel.count.Given as goal

abbrev pub invariant-loop-l : goal.invariant-loop-l
invariant-loop-l l = Outside l.initial.w l.w × Counted (sheet_in l.initial.w) (task_count (sheet_in l.initial.w)) l.l l.w
