-- `put_messages` (src/writing.rt) keeps its contract: its loops.
use Rattle.plan_writer.proofs.Puts.{Putting}
use Prim.Native.Nat.{◌-◌}
use Rattle.schedule.specs.Layout.{schedule_in}
use Rattle.sheet.specs.Tables.{sheet_in}
use Rattle.plan_writer.proofs.writing.put_messages.Given as goal

abbrev pub invariant-loop-l : goal.invariant-loop-l
invariant-loop-l l = Putting (sheet_in l.w) (schedule_in l.w) l.e l.k l.t l.initial.out l.start l.l l.out l.at

abbrev pub decreases-loop-l : goal.decreases-loop-l
decreases-loop-l l = l.m - l.l
