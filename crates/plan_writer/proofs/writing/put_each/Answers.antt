-- `put_each` (src/writing.rt) keeps its contract.
use native.Mathlib.Omega.{arith}
use Rattle.schedule.specs.Layout.{schedule_in}
use Rattle.plan_writer.proofs.Puts.{filled-all, filled-lent, filled_none, filled-rest, filled-room}
use Rattle.plan_writer.proofs.writing.put_each.Goals as goal

pub loop-k-init : goal.loop-k-init
loop-k-init c = (omega arith, filled_none _ _ _)

pub put_programme-at-requires : goal.put_programme-at-requires
put_programme-at-requires c =
    let in-loop = c.loop-k.invariant in
    let opened = c.opened-p.ensures.0 in
    let few = c.opened-p.ensures.1 in
    let below = c.loop-k-test.true in
    record { scheduled = c.requires.scheduled; k_bound = (omega (arith, below, few), c.requires.queued); k_in_bounds = filled-rest _ _ _ in-loop.1 (schedule_in c.args.w.now).opened (omega (arith, below, opened)) (omega (arith, c.requires.w_in_bounds)) }

pub overflow_add-at : goal.overflow_add-at
overflow_add-at c =
    let in-loop = c.loop-k.invariant in
    let count = c.opened-p.ensures.0 in
    let below = c.loop-k-test.true in
    let room = filled-room _ _ _ in-loop.1 (schedule_in c.args.w.now).opened (omega (arith, below, count)) (omega (arith, c.requires.w_in_bounds)) in
    omega (arith, c.put_programme-at.ensures.next, room)

pub loop-k-preserved : goal.loop-k-preserved
loop-k-preserved c =
    let in-loop = c.loop-k.invariant in
    let put = c.put_programme-at in
    let opened = c.opened-p.ensures.0 in
    let below = c.loop-k-test.true in
    let room = filled-room _ _ _ in-loop.1 (schedule_in c.args.w.now).opened (omega (arith, below, opened)) (omega (arith, c.requires.w_in_bounds)) in
    let more = filled-lent _ _ _ in-loop.1 in-loop.0 put.ensures put.auto.out in
    (omega (arith, put.ensures.next, room, more.long, in-loop.1.long), more)

pub shape_of-out : goal.shape_of-out
shape_of-out c = c.loop-k.invariant.1.long

pub returns : goal.returns
returns c = filled-all _ _ _ c.loop-k.invariant.1 _ (omega (arith, c.loop-k.auto.k-end, c.loop-k-test.false, c.opened-p.ensures.0))
