-- `take_each` (src/lib.rt) keeps its contract: its loops.
use Rattle.sheet.specs.Tables.{sheet_in}
use Rattle.schedule.specs.Layout.{schedule_in}
use Rattle.readiness.specs.Keyed.{Keyed}
use Rattle.turns.proofs.Turns.{Turning}
use Rattle.turns.proofs.take_each.Given as goal

abbrev pub invariant-loop-j : goal.invariant-loop-j
invariant-loop-j l = Turning l.initial.w l.n l.j l.w l.kept × Keyed (sheet_in l.w) (schedule_in l.w) l.q
