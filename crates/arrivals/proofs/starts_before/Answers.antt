-- `starts_before` (src/lib.rt) keeps its contract.
use native.Mathlib.Omega.{arith}
use Rattle.sheet.proofs.Rows.{task-index}
use Rattle.arrivals.proofs.Reaching.{wait-begins, wait-done, wait-late, wait-more, wait-there}
use Rattle.arrivals.proofs.starts_before.Goals as goal

pub word-n-requires : goal.word-n-requires
word-n-requires c = omega (arith, task-index c.args.w.now c.args.t c.requires.kept.loaded c.requires.t_bound.0, c.requires.kept.long)

pub first-l-requires : goal.first-l-requires
first-l-requires c = record { loaded = c.requires.kept.loaded; chained = c.requires.kept.caches.inward; t_bound = c.requires.t_bound.0 }

pub loop-i-init : goal.loop-i-init
loop-i-init c = wait-begins c.requires.kept.caches c.args.t c.args.k c.requires.t_bound.0 c.requires.t_bound.1 c.first-l.ensures.0 c.first-l.ensures.1 c.word-start.ensures.0

pub returns-then-limit-start : goal.returns-then-limit-start
returns-then-limit-start c = wait-late c.requires.kept.caches c.args.t c.args.k c.requires.t_bound.0 c.loop-i.invariant c.if-limit-start.true

pub start_by-requires : goal.start_by-requires
start_by-requires c = (c.requires.kept.loaded, wait-there c.requires.kept.caches c.args.t c.args.k c.requires.t_bound.0 c.loop-i.invariant c.word-n.ensures.0 c.loop-i-test.true, c.requires.t_bound.1, c.cube-cube.ensures)

pub next-l-requires : goal.next-l-requires
next-l-requires c = record { loaded = c.requires.kept.loaded; chained = c.requires.kept.caches.inward; l_bound = wait-there c.requires.kept.caches c.args.t c.args.k c.requires.t_bound.0 c.loop-i.invariant c.word-n.ensures.0 c.loop-i-test.true }

pub loop-i-preserved : goal.loop-i-preserved
loop-i-preserved c =
    let d = c.requires.kept.caches in
    let g = c.loop-i.invariant in
    let m = wait-there d c.args.t c.args.k c.requires.t_bound.0 g c.word-n.ensures.0 c.loop-i-test.true in
    wait-more d c.args.t c.args.k c.requires.t_bound.0 g m c.next-l.ensures.0 c.next-l.ensures.2 c.next-l.ensures.1 c.start_by.ensures c.max-start.ensures

pub returns : goal.returns
returns c = wait-done c.requires.kept.caches c.args.t c.args.k c.requires.t_bound.0 c.loop-i.invariant c.args.limit c.word-n.ensures.0 (omega (arith, c.loop-i-test.false))
