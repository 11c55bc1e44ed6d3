-- `put_report` (src/reports.rt) keeps its contract.
use native.Mathlib.Omega.{arith}
use Rattle.drift.proofs.Endings.{put-short, put-done}
use Rattle.drift.proofs.reports.put_report.Goals as goal

pub returns-then-out-need : goal.returns-then-out-need
returns-then-out-need c =
    let a = c.args in
    rw c.at.ensures (put-short a.w.now a.order.now a.slots.now a.steps a.n a.claim a.out.now c.if-out-need.true)

pub trace-requires : goal.trace-requires
trace-requires c = c.requires.0

pub put_slots-requires : goal.put_slots-requires
put_slots-requires c = let p = c.requires in (omega (arith, p.1, p.2, c.trace.ensures.slots_long), omega (arith, c.if-out-need.false), p.1)

pub shape_of-w : goal.shape_of-w
shape_of-w c = c.trace.ensures.long

pub shape_of-slots : goal.shape_of-slots
shape_of-slots c = c.trace.ensures.slots_long

pub returns : goal.returns
returns c = put-done c.trace.ensures (omega (arith, c.if-out-need.false)) c.put_slots.ensures
