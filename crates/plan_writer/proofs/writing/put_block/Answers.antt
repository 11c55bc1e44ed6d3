-- `put_block` (src/writing.rt) keeps its contract.
use native.Mathlib.Omega.{arith}
use Rattle.schedule.specs.Layout.{schedule_in}
use Rattle.sheet.specs.Tables.{sheet_in}
use Rattle.sheet.proofs.Rows.{ranged}
use Rattle.plan_writer.proofs.Measures.{block-length}
use Rattle.plan_writer.proofs.Puts.{block-put}
use Rattle.plan_writer.proofs.writing.put_block.Goals as goal

pub put_messages-received-requires : goal.put_messages-received-requires
put_messages-received-requires c =
    let a = c.args in
    let z = block-length (sheet_in a.w.now) (schedule_in a.w.now) a.k a.t c.requires.t_bound.1 in
    record { scheduled = c.requires.scheduled; t_bound = c.requires.t_bound.0; t_in_bounds = omega (arith, c.requires.t_in_bounds) }

pub put_pair-ran-requires : goal.put_pair-ran-requires
put_pair-ran-requires c = let a = c.args in let z = block-length (sheet_in a.w.now) (schedule_in a.w.now) a.k a.t c.requires.t_bound.1 in (omega (arith, c.requires.t_in_bounds, c.put_messages-received.ensures.next, c.put_messages-received.auto.out), omega (arith, c.requires.t_bound.0, (ranged a.w.now c.requires.scheduled.loaded).few_tasks))

pub put_messages-requires : goal.put_messages-requires
put_messages-requires c =
    let a = c.args in
    let z = block-length (sheet_in a.w.now) (schedule_in a.w.now) a.k a.t c.requires.t_bound.1 in
    record { scheduled = c.requires.scheduled; t_bound = c.requires.t_bound.0; t_in_bounds = omega (arith, c.requires.t_in_bounds, c.put_messages-received.ensures.next, c.put_messages-received.auto.out, c.put_pair-ran.ensures.next, c.put_pair-ran.auto.out) }

pub returns : goal.returns
returns c =
    let a = c.args in
    let z = block-length (sheet_in a.w.now) (schedule_in a.w.now) a.k a.t c.requires.t_bound.1 in
    block-put (sheet_in a.w.now) (schedule_in a.w.now) a.k a.t c.requires.t_bound.1 c.put_messages-received.ensures (omega (arith, c.requires.t_in_bounds, c.put_messages-received.ensures.next, c.put_messages-received.auto.out)) c.put_pair-ran.ensures c.put_messages.ensures
