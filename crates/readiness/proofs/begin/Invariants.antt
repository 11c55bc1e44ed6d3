-- `begin` (src/lib.rt) keeps its contract: its loops.
use Rattle.readiness.specs.Keyed.{KeyedTo}
use Rattle.schedule.specs.Layout.{schedule_in}
use Rattle.sheet.specs.Tables.{sheet_in}
use Rattle.readiness.proofs.begin.Given as goal

abbrev pub invariant-loop-t : goal.invariant-loop-t
invariant-loop-t l = KeyedTo (sheet_in l.w) (schedule_in l.w) l.t l.q
