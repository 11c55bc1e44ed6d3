-- `fill` (src/peel.rt) keeps its contract: its loops.
use Rattle.topological_order.specs.Words.{Outside}
use Rattle.topological_order.specs.Peeling.{Filled}
use Rattle.sheet.specs.Tables.{sheet_in}
use Rattle.topological_order.proofs.peel.fill.Given as goal

abbrev pub invariant-loop-t : goal.invariant-loop-t
invariant-loop-t l = Outside l.initial.w l.w × Filled (sheet_in l.initial.w) l.k l.t l.w
