-- `fresh_start` (src/lib.rt) keeps its contract.
use native.Mathlib.Omega.{arith}
use Rattle.sheet.proofs.Rows.{ranged}
use Rattle.arrivals.proofs.Unpacking.{receive-begins, receive-more, receive-small, receive-done}
use Rattle.arrivals.proofs.fresh_start.Goals as goal

pub loop-l-init : goal.loop-l-init
loop-l-init c = receive-begins c.requires.loaded.1 c.args.t c.requires.t_bound.0 c.first-l.ensures.0 c.first-l.ensures.1

pub unpacked_with-x-requires : goal.unpacked_with-x-requires
unpacked_with-x-requires c =
    let loaded = c.requires.loaded.0 in
    record { loaded = (loaded, omega (arith, c.links-m.ensures)); x_le_latest_start = (receive-small c.loop-l.invariant (ranged c.args.w.now loaded) c.requires.t_bound.2, c.requires.t_bound.1) }

pub next-l-requires : goal.next-l-requires
next-l-requires c = record { loaded = c.requires.loaded.0; chained = c.requires.loaded.1; l_bound = omega (arith, c.loop-l-test.true, c.links-m.ensures) }

pub loop-l-smaller : goal.loop-l-smaller
loop-l-smaller c = omega (arith, c.next-l.ensures.2, c.loop-l-test.true)

pub loop-l-preserved : goal.loop-l-preserved
loop-l-preserved c = receive-more c.requires.loaded.1 c.args.t c.requires.t_bound.0 c.loop-l.invariant (omega (arith, c.loop-l-test.true, c.links-m.ensures)) c.next-l.ensures.0 c.next-l.ensures.2 c.next-l.ensures.1 c.unpacked_with-x.ensures

pub returns : goal.returns
returns c =
    let g = c.loop-l.invariant in
    (receive-done g (omega (arith, c.loop-l-test.false, c.links-m.ensures)), receive-small g (ranged c.args.w.now c.requires.loaded.0) c.requires.t_bound.2)
