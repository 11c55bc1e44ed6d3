-- `count_links` (src/lib.rt) keeps its contract: its loops.
use Prim.Native.Nat.{◌-◌}
use Rattle.sheet.specs.Tables.{sheet_in}
use Rattle.schedule.specs.Layout.{schedule_in}
use Rattle.arrivals.proofs.Walks.{Walking}
use Rattle.readiness.specs.Keyed.{KeyedPast}
use Rattle.readiness.proofs.count_links.Given as goal

abbrev pub invariant-loop-l : goal.invariant-loop-l
invariant-loop-l l = Walking (sheet_in l.w) (schedule_in l.w) l.t l.l l.initial.kept l.kept × KeyedPast (sheet_in l.w) (schedule_in l.w) l.t l.l l.q

abbrev pub decreases-loop-l : goal.decreases-loop-l
decreases-loop-l l = l.m - l.l
