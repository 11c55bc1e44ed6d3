-- `put_blocks` (src/writing.rt) keeps its contract: its loops.
use Rattle.schedule.specs.Layout.{schedule_in}
use Prim.Native.Nat.{◌-◌}
use Rattle.sheet.specs.Tables.{sheet_in}
use Rattle.plan_writer.proofs.Queueing.{Blocks}
use Rattle.plan_writer.proofs.writing.put_blocks.Given as goal

abbrev pub invariant-loop-i : goal.invariant-loop-i
invariant-loop-i l = Blocks (sheet_in l.w) (schedule_in l.w) l.k l.initial.out l.start l.i l.out l.at

abbrev pub decreases-loop-i : goal.decreases-loop-i
decreases-loop-i l = l.p - l.i
