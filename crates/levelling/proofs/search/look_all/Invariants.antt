-- `look_all` (src/search.rt) keeps its contract: its loops.
use Rattle.topological_order.specs.Words.{Outside}
use Rattle.topological_order.specs.Peeling.{Searched}
use Prim.Native.Nat.{◌-◌}
use Rattle.sheet.specs.Tables.{sheet_in}
use Rattle.sheet.specs.Sheet.{task_count}
use Rattle.levelling.proofs.search.look_all.Given as goal

abbrev pub invariant-loop-i : goal.invariant-loop-i
invariant-loop-i l = Outside l.initial.w l.w × Searched (sheet_in l.initial.w) l.goal l.i l.k l.w

abbrev pub decreases-loop-i : goal.decreases-loop-i
decreases-loop-i l = task_count (sheet_in l.initial.w) - l.i
