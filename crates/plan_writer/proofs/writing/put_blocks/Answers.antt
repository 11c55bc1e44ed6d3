-- `put_blocks` (src/writing.rt) keeps its contract.
use native.Mathlib.Omega.{arith}
use Rattle.schedule.specs.Layout.{schedule_in}
use Prim.Native.Nat.{◌<◌}
use mathlib.Core.Path.{ap}
use lib.ListN.{length}
use Rattle.plan_writer.proofs.Lays.{laid_as}
use Rattle.sheet.specs.Tables.{sheet_in}
use Rattle.plan_writer.proofs.Measures.{turn_is}
use Rattle.plan_writer.proofs.Puts.{filled-all, filled-room}
use Rattle.plan_writer.proofs.Queueing.{blocks-first, blocks_more, turn-stands, turn-task}
use Rattle.plan_writer.proofs.writing.put_blocks.Goals as goal

pub word-i-requires : goal.word-i-requires
word-i-requires c = omega (arith, c.requires.k_bound.0, c.requires.k_bound.1.long)

pub loop-i-init : goal.loop-i-init
loop-i-init c = blocks-first (sheet_in c.args.w.now) (schedule_in c.args.w.now) c.args.k c.args.out.now c.args.start c.requires.k_bound.1 c.requires.k_bound.0 c.word-i.ensures.0

pub turn-requires : goal.turn-requires
turn-requires c = record { loaded = c.requires.scheduled.loaded; i_bound = (omega (arith, c.requires.scheduled.few_placed, c.placed-p.ensures.0, c.loop-i-test.true), omega (arith, c.placed-p.ensures.0, c.loop-i-test.true)) }

pub put_block-at-requires : goal.put_block-at-requires
put_block-at-requires c =
    let σ = schedule_in c.args.w.now in
    let l = c.loop-i in
    let h : l.i < length (schedule_in c.args.w.now).order = omega (arith, c.placed-p.ensures.0, c.loop-i-test.true) in
    let room = filled-room _ _ _ l.invariant.filled _ h c.requires.k_in_bounds in
    record { scheduled = c.requires.scheduled; t_bound = (turn-task c.requires.scheduled l.i h c.turn.ensures.0, turn-stands σ l.i c.args.k c.turn.ensures.0 (l.invariant.own h)); t_in_bounds = omega (arith, room, ap length (turn_is (sheet_in c.args.w.now) σ c.args.k l.i _ c.turn.ensures.0)) }

pub word-i-requires-in-loop-i : goal.word-i-requires-in-loop-i
word-i-requires-in-loop-i c = omega (arith, c.requires.scheduled.few_placed, c.placed-p.ensures.0, c.loop-i-test.true, c.requires.k_bound.1.long)

pub loop-i-smaller : goal.loop-i-smaller
loop-i-smaller c =
    let l = c.loop-i in
    let h : l.i < length (schedule_in c.args.w.now).order = omega (arith, c.placed-p.ensures.0, c.loop-i-test.true) in
    omega (arith, c.loop-i-test.true, c.word-i-in-loop-i.ensures.0, (c.requires.k_bound.1.next l.i (omega arith) h).low)

pub loop-i-preserved : goal.loop-i-preserved
loop-i-preserved c =
    let l = c.loop-i in
    let h : l.i < length (schedule_in c.args.w.now).order = omega (arith, c.placed-p.ensures.0, c.loop-i-test.true) in
    blocks_more (sheet_in c.args.w.now) (schedule_in c.args.w.now) c.args.k c.requires.k_bound.1 l.invariant h
    (laid_as (turn_is (sheet_in c.args.w.now) (schedule_in c.args.w.now) c.args.k l.i _ c.turn.ensures.0) c.put_block-at.ensures)
    c.put_block-at.auto.out c.word-i-in-loop-i.ensures.0

pub shape_of-out : goal.shape_of-out
shape_of-out c = c.loop-i.invariant.filled.long

pub returns : goal.returns
returns c = filled-all _ _ _ c.loop-i.invariant.filled _ (omega (arith, c.loop-i.invariant.few, c.loop-i-test.false, c.placed-p.ensures.0))
