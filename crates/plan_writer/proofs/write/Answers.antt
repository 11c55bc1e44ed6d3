-- `write` (src/lib.rt) keeps its contract.
use native.Mathlib.Omega.{arith}
use Rattle.bundle.specs.Writing.{bundle_bytes}
use Rattle.planner.specs.Planner.{bundle_of}
use Rattle.schedule.specs.Layout.{schedule_in}
use Rattle.sheet.specs.Tables.{sheet_in}
use Rattle.plan_writer.proofs.Writes.{write-long, write-short}
use Rattle.plan_writer.proofs.write.Goals as goal

pub returns-then-out-need : goal.returns-then-out-need
returns-then-out-need c = let a = c.args in rw c.at.ensures (write-short (bundle_bytes (bundle_of (sheet_in a.w.now) (schedule_in a.w.now))) a.out.now _ c.of_bundle-need.ensures c.if-out-need.true)

pub returns : goal.returns
returns c = let a = c.args in write-long (bundle_bytes (bundle_of (sheet_in a.w.now) (schedule_in a.w.now))) a.out.now _ _ c.of_bundle-need.ensures (omega (arith, c.if-out-need.false)) c.put_bundle.ensures
