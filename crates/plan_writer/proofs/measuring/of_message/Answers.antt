-- `of_message` (src/measuring.rt) keeps its contract.
use native.Mathlib.Omega.{arith}
use Rattle.schedule.specs.Layout.{schedule_in}
use Rattle.sheet.specs.Tables.{sheet_in}
use Rattle.plan_writer.proofs.Lengths.{length-away, length-here}
use Rattle.plan_writer.proofs.measuring.of_message.Goals as goal

pub returns-then-from-to : goal.returns-then-from-to
returns-then-from-to c = let a = c.args in (length-here (sheet_in a.w.now) (schedule_in a.w.now) a.l c.source.ensures.0 c.target.ensures.0 c.place-from.ensures.0 c.place-to.ensures.0 c.if-from-to.true, omega arith)

pub returns-else-from-to : goal.returns-else-from-to
returns-else-from-to c = let a = c.args in (length-away (sheet_in a.w.now) (schedule_in a.w.now) a.l c.source.ensures.0 c.target.ensures.0 c.place-from.ensures.0 c.place-to.ensures.0 c.if-from-to.false, omega arith)
