-- `walk` (src/peel.rt) keeps its contract.
use Rattle.topological_order.proofs.Turns.{next-asks, walk-asks, walk_ends, walk-less, walk-starts, walk-turns}
use native.Mathlib.Omega.{arith}
use Rattle.topological_order.proofs.Frames.{outside_trans, grown-outside}
use Rattle.topological_order.proofs.peel.walk.Goals as goal

pub first-l-requires : goal.first-l-requires
first-l-requires c = record { loaded = c.requires.held.loaded; chained = c.requires.chained; t_bound = c.requires.walking.task }

pub loop-l-init : goal.loop-l-init
loop-l-init c = walk-starts c.args.w.now c.args.v c.args.k c.first-l.result c.requires.held c.requires.chained c.requires.walking c.first-l.ensures.0

pub visit-q-requires : goal.visit-q-requires
visit-q-requires c =
    let all = walk-asks c.requires.held c.loop-l.invariant (omega (arith, c.loop-l-test.true, c.links-m.ensures.0)) in
    record { held = all.0; l_bound = all.1.0; walking = all.1.1 }

pub next-l-requires : goal.next-l-requires
next-l-requires c =
    let all = next-asks c.requires.held c.requires.chained (outside_trans (grown-outside c.loop-l.invariant.grown) (grown-outside c.visit-q.ensures.0)) (omega (arith, c.loop-l-test.true, c.links-m.ensures.0)) in
    record { loaded = all.0; chained = all.1.0; l_bound = all.1.1 }

pub loop-l-smaller : goal.loop-l-smaller
loop-l-smaller c = omega (arith, c.loop-l-test.true, c.next-l.ensures, walk-less c.requires.held c.requires.chained c.loop-l.invariant (omega (arith, c.loop-l-test.true, c.links-m.ensures.0)) (grown-outside c.visit-q.ensures.0) c.next-l.ensures.0)

pub loop-l-preserved : goal.loop-l-preserved
loop-l-preserved c = walk-turns c.requires.held c.requires.chained c.loop-l.invariant (omega (arith, c.loop-l-test.true, c.links-m.ensures.0)) c.visit-q.ensures c.next-l.ensures.0

pub shape_of-w : goal.shape_of-w
shape_of-w c = c.loop-l.invariant.grown.only.long

pub returns : goal.returns
returns c = walk_ends c.requires.held c.loop-l.invariant (omega (arith, c.loop-l-test.false, c.links-m.ensures.0))
