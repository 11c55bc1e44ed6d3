-- `walk_into` (src/search.rt) keeps its contract.
use Rattle.levelling.proofs.Spreads.{spread-asks, spread-closes, spread-ends, spread-goes, spread-is-back, spread-is-on, spread-less, spread-source, spread-starts}
use native.Mathlib.Omega.{arith}
use Rattle.topological_order.proofs.Frames.{outside-held, outside_trans}
use Rattle.topological_order.proofs.Turns.{next-asks}
use Rattle.levelling.proofs.search.walk_into.Goals as goal

pub first-l-requires : goal.first-l-requires
first-l-requires c = record { loaded = c.requires.held.loaded; chained = c.requires.chained; t_bound = c.requires.spreading.task }

pub loop-l-init : goal.loop-l-init
loop-l-init c = spread-starts c.args.w.now c.args.goal c.args.v c.args.k c.first-l.result c.requires.held c.requires.chained c.requires.spreading c.first-l.ensures.0

pub source-u-requires : goal.source-u-requires
source-u-requires c =
    let v = c.loop-l.invariant in
    record { loaded = (outside-held c.requires.held v.outside).loaded; l_bound = spread-source c.requires.held v (omega (arith, c.loop-l-test.true, c.links-m.ensures.0)) }

pub shape_of-w-then-u-goal : goal.shape_of-w-then-u-goal
shape_of-w-then-u-goal c = c.loop-l.invariant.outside.kept.long

pub returns-then-u-goal : goal.returns-then-u-goal
returns-then-u-goal c = let v = c.loop-l.invariant in (v.outside, spread-is-back (spread-closes c.requires.held v (omega (arith, c.loop-l-test.true, c.links-m.ensures.0)) c.source-u.ensures.0 c.if-u-goal.true))

pub note-q-requires : goal.note-q-requires
note-q-requires c =
    let all = spread-asks c.requires.held c.loop-l.invariant c.source-u.ensures.1 in
    record { held = all.0; u_bound = all.1.0; queued = all.1.1 }

pub next-l-requires : goal.next-l-requires
next-l-requires c =
    let all = next-asks c.requires.held c.requires.chained (outside_trans c.loop-l.invariant.outside c.note-q.ensures.0) (omega (arith, c.loop-l-test.true, c.links-m.ensures.0)) in
    record { loaded = all.0; chained = all.1.0; l_bound = all.1.1 }

pub loop-l-smaller : goal.loop-l-smaller
loop-l-smaller c = omega (arith, c.loop-l-test.true, c.next-l.ensures, spread-less c.requires.held c.requires.chained c.loop-l.invariant (omega (arith, c.loop-l-test.true, c.links-m.ensures.0)) c.note-q.ensures.0 c.next-l.ensures.0)

pub loop-l-preserved : goal.loop-l-preserved
loop-l-preserved c = spread-goes c.requires.held c.requires.chained c.loop-l.invariant (omega (arith, c.loop-l-test.true, c.links-m.ensures.0)) c.source-u.ensures.0 c.if-u-goal.false c.note-q.ensures c.next-l.ensures.0

pub shape_of-w : goal.shape_of-w
shape_of-w c = c.loop-l.invariant.outside.kept.long

pub returns : goal.returns
returns c = let v = c.loop-l.invariant in (v.outside, spread-is-on (spread-ends c.requires.held v (omega (arith, c.loop-l-test.false, c.links-m.ensures.0))))
