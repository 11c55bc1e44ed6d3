-- `put_messages` (src/writing.rt) keeps its contract.
use Rattle.plan_writer.proofs.Puts.{putting-done, putting-on, putting-room, putting-starts}
use Prim.Native.Nat.{◌<◌}
use native.Mathlib.Omega.{arith}
use Rattle.plan_writer.proofs.Measures.{chained-of}
use Rattle.sheet.specs.Sheet.{link_count}
use Rattle.schedule.specs.Layout.{schedule_in}
use Rattle.sheet.specs.Tables.{sheet_in}
use Rattle.plan_writer.proofs.writing.put_messages.Goals as goal

pub first-l-requires : goal.first-l-requires
first-l-requires c = record { loaded = c.requires.scheduled.loaded; chained = chained-of c.requires.scheduled c.args.e; t_bound = c.requires.t_bound }

pub loop-l-init : goal.loop-l-init
loop-l-init c = putting-starts (sheet_in c.args.w.now) (schedule_in c.args.w.now) (chained-of c.requires.scheduled c.args.e) c.args.k c.args.t c.requires.t_bound c.args.out.now c.args.start c.first-l.ensures.0 c.first-l.ensures.1

pub put_link-at-requires : goal.put_link-at-requires
put_link-at-requires c =
    let h : c.loop-l.l < link_count (sheet_in c.args.w.now) = omega (arith, c.loop-l-test.true, c.links-m.ensures.0) in
    record { scheduled = c.requires.scheduled; l_bound = h; at_in_bounds = putting-room (sheet_in c.args.w.now) (schedule_in c.args.w.now) (chained-of c.requires.scheduled c.args.e) c.args.k c.args.t c.requires.t_bound c.args.out.now c.args.start c.loop-l.invariant h c.requires.t_in_bounds }

pub next-l-requires : goal.next-l-requires
next-l-requires c = record { loaded = c.requires.scheduled.loaded; chained = chained-of c.requires.scheduled c.args.e; l_bound = omega (arith, c.loop-l-test.true, c.links-m.ensures.0) }

pub loop-l-smaller : goal.loop-l-smaller
loop-l-smaller c = omega (arith, c.next-l.ensures.2, c.loop-l-test.true)

pub loop-l-preserved : goal.loop-l-preserved
loop-l-preserved c = putting-on (sheet_in c.args.w.now) (schedule_in c.args.w.now) (chained-of c.requires.scheduled c.args.e) c.args.k c.args.t c.requires.t_bound c.args.out.now c.args.start c.loop-l.invariant (omega (arith, c.loop-l-test.true, c.links-m.ensures.0)) c.put_link-at.ensures c.put_link-at.auto.out c.next-l.ensures.0 c.next-l.ensures.1 c.next-l.ensures.2

pub shape_of-out : goal.shape_of-out
shape_of-out c = c.loop-l.invariant.filled.long

pub returns : goal.returns
returns c = putting-done (sheet_in c.args.w.now) (schedule_in c.args.w.now) c.loop-l.invariant (omega (arith, c.loop-l-test.false, c.links-m.ensures.0))
