-- `of_messages` (src/measuring.rt) keeps its contract: its loops.
use Prim.Native.Nat.{◌*◌, ◌≤◌}
use mathlib.Core.Path.{◌≡◌}
use Rattle.folds.specs.Folds.{sum}
use Rattle.schedule.specs.Layout.{schedule_in}
use Rattle.sheet.specs.Tables.{sheet_in}
use Rattle.plan_writer.specs.Bytes.{message_length}
use Rattle.plan_writer.proofs.measuring.of_messages.Given as goal

abbrev pub invariant-loop-l : goal.invariant-loop-l
invariant-loop-l l = (l.n ≡ sum l.l (message_length (sheet_in l.w) (schedule_in l.w))) × (l.n ≤ 3 * l.l)
