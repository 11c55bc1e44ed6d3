-- `fresh_start` (src/lib.rt) keeps its contract: its loops.
use Prim.Native.Nat.{◌-◌}
use Rattle.sheet.specs.Tables.{sheet_in}
use Rattle.schedule.specs.Layout.{schedule_in}
use Rattle.arrivals.proofs.Unpacking.{Receiving}
use Rattle.arrivals.proofs.fresh_start.Given as goal

abbrev pub invariant-loop-l : goal.invariant-loop-l
invariant-loop-l l = Receiving (sheet_in l.w) (schedule_in l.w) l.t l.l l.x

abbrev pub decreases-loop-l : goal.decreases-loop-l
decreases-loop-l l = l.m - l.l
