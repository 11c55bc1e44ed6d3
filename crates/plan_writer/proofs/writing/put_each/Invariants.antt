-- `put_each` (src/writing.rt) keeps its contract: its loops.
use Rattle.schedule.specs.Layout.{schedule_in}
use Rattle.sheet.specs.Tables.{sheet_in}
use Prim.Native.Nat.{◌≤◌}
use lib.ListN.{length}
use Rattle.plan_writer.specs.Bytes.{open_bytes}
use Rattle.plan_writer.proofs.Puts.{Filled}
use Rattle.plan_writer.proofs.writing.put_each.Given as goal

abbrev pub invariant-loop-k : goal.invariant-loop-k
invariant-loop-k l = (l.at ≤ length l.out) × Filled (open_bytes (sheet_in l.w) (schedule_in l.w)) l.initial.out 0 l.k l.out l.at
