-- `take_all` (src/peel.rt) keeps its contract: its loops.
use Prim.Native.Nat.{◌-◌}
use Rattle.sheet.specs.Tables.{sheet_in}
use Rattle.sheet.specs.Sheet.{task_count}
use Rattle.topological_order.proofs.Turns.{TakenTo}
use Rattle.topological_order.proofs.peel.take_all.Given as goal

abbrev pub invariant-loop-i : goal.invariant-loop-i
invariant-loop-i l = TakenTo l.initial.w l.i l.q l.w

abbrev pub decreases-loop-i : goal.decreases-loop-i
decreases-loop-i l = task_count (sheet_in l.initial.w) - l.i
