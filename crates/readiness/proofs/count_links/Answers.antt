-- `count_links` (src/lib.rt) keeps its contract.
use Prim.Native.Nat.{◌≤◌, ◌<◌}
use mathlib.Core.Path.{◌∙◌, sym}
use native.Mathlib.Omega.{arith}
use Rattle.sheet.specs.Sheet.{link_count}
use Rattle.sheet.specs.Tables.{sheet_in}
use Rattle.sheet.proofs.Rows.{ranged}
use Rattle.arrivals.proofs.Walks.{walk_begins, walk_more, walk-done, target-arrived}
use Rattle.readiness.proofs.Renewing.{past-begins, past_first, past_next, past_all, target-waits}
use Rattle.readiness.proofs.count_links.Goals as goal

pub put-requires : goal.put-requires
put-requires c = record { blocked = c.requires.keyed_beside.blocked; i_bound = omega (arith, (ranged c.args.w.now c.requires.loaded.0).few_tasks, c.requires.k_bound.2) }

pub loop-l-init : goal.loop-l-init
loop-l-init c =
    let range = ranged c.args.w.now c.requires.loaded.0 in
    let h = c.requires.k_bound.2 in
    let k = past-begins c.args.t range h c.put.ensures c.requires.keyed_beside in
    (walk_begins c.requires.chained.0 c.args.t h c.first-l.ensures.0 c.first-l.ensures.1 c.requires.gathered.1, past_first c.requires.chained.0 range c.args.t h c.first-l.ensures.0 k)

pub count_link-requires : goal.count_link-requires
count_link-requires c =
    let g = c.loop-l.invariant.0 in
    let h : c.loop-l.l < link_count (sheet_in c.args.w.now) = omega (arith, c.loop-l-test.true, c.links-m.ensures.0) in
    record { loaded = (c.requires.loaded.0, omega (arith, g.beside.long, c.requires.loaded.1)); k_bound = (c.requires.k_bound.0, c.requires.k_bound.1, h, g.own h); single = c.requires.single; counted = g.counted }

pub target-requires : goal.target-requires
target-requires c = record { loaded = c.requires.loaded.0; l_bound = omega (arith, c.loop-l-test.true, c.links-m.ensures.0) }

pub renew_target-requires : goal.renew_target-requires
renew_target-requires c =
    let g = c.loop-l.invariant.0 in
    let k = c.loop-l.invariant.1 in
    let e = c.target.ensures.0 in
    let h : c.loop-l.l < link_count (sheet_in c.args.w.now) = omega (arith, c.loop-l-test.true, c.links-m.ensures.0) in
    let there = target-arrived c.requires.loaded.0 c.requires.single.0 h (g.own h) e c.requires.loaded.1 c.requires.gathered.0 g c.count_link.ensures.0 c.count_link.ensures.1 in
    record { arrived = there; levelled = c.requires.levelled.0; chained = (c.requires.chained.1, c.requires.levelled.1); blocked = k.blocked; waiting = target-waits e h (g.own h) k }

pub next-l-requires : goal.next-l-requires
next-l-requires c = record { loaded = c.requires.loaded.0; chained = c.requires.chained.0; l_bound = omega (arith, c.loop-l-test.true, c.links-m.ensures.0) }

pub loop-l-smaller : goal.loop-l-smaller
loop-l-smaller c = omega (arith, c.next-l.ensures.2, c.loop-l-test.true)

pub loop-l-preserved : goal.loop-l-preserved
loop-l-preserved c =
    let g = c.loop-l.invariant.0 in
    let t-in = c.requires.k_bound.2 in
    let h : c.loop-l.l < link_count (sheet_in c.args.w.now) = omega (arith, c.loop-l-test.true, c.links-m.ensures.0) in (
      walk_more c.requires.chained.0 c.args.t t-in g c.count_link.ensures.0 h c.next-l.ensures.0 c.next-l.ensures.1 c.next-l.ensures.2 c.count_link.ensures.1,
      past_next c.requires.chained.0 (ranged c.args.w.now c.requires.loaded.0) c.args.t t-in c.requires.single.0 h (g.own h) c.next-l.ensures.0 c.target.ensures.0 c.renew_target.ensures c.loop-l.invariant.1,
    )

pub shape_of-kept : goal.shape_of-kept
shape_of-kept c = c.loop-l.invariant.0.beside.long

pub shape_of-q : goal.shape_of-q
shape_of-q c = c.loop-l.invariant.1.blocked.long ∙ sym c.requires.keyed_beside.blocked.long

pub returns : goal.returns
returns c =
    let done : link_count (sheet_in c.args.w.now) ≤ c.loop-l.l = omega (arith, c.loop-l-test.false, c.links-m.ensures.0) in
    let d = walk-done done c.loop-l.invariant.0 in
    (d.0, d.1, past_all done c.loop-l.invariant.1)
