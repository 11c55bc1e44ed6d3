-- `of_messages` (src/measuring.rt) keeps its contract.
use mathlib.Core.Path.{sym}
use native.Mathlib.Omega.{arith}
use Rattle.folds.proofs.Loops.{sum-at, sum_more, sum-zero}
use Rattle.schedule.specs.Layout.{schedule_in}
use Rattle.sheet.specs.Sheet.{link_count}
use Rattle.sheet.specs.Tables.{sheet_in}
use Rattle.plan_writer.specs.Bytes.{message_length}
use Rattle.plan_writer.proofs.measuring.of_messages.Goals as goal

pub loop-l-init : goal.loop-l-init
loop-l-init c = (sym (sum-zero _), omega arith)

pub loop-l-preserved : goal.loop-l-preserved
loop-l-preserved c = let a = c.args in (sum_more c.loop-l.l (message_length (sheet_in a.w.now) (schedule_in a.w.now)) c.loop-l.invariant.0 c.of_message-n.ensures.0, omega (arith, c.of_message-n.ensures.1, c.loop-l.invariant.1))

pub returns : goal.returns
returns c = let a = c.args in (sum-at (message_length (sheet_in a.w.now) (schedule_in a.w.now)) c.loop-l.l (link_count (sheet_in a.w.now)) c.loop-l.invariant.0 (omega (arith, c.loop-l.auto.l-end, c.loop-l-test.false, c.links-m.ensures.0)), omega (arith, c.loop-l.auto.l-end, c.loop-l.invariant, c.links-m.ensures))
