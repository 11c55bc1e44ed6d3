-- `starts_before` (src/lib.rt) keeps its contract: its loops.
use Rattle.sheet.specs.Tables.{sheet_in}
use Rattle.schedule.specs.Layout.{schedule_in}
use Rattle.arrivals.proofs.Reaching.{Waiting}
use Rattle.arrivals.proofs.starts_before.Given as goal

abbrev pub invariant-loop-i : goal.invariant-loop-i
invariant-loop-i l = Waiting (sheet_in l.w) (schedule_in l.w) l.t l.k l._i l.l l.start
