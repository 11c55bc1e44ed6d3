-- `settle` (src/lib.rt) keeps its contract.
use native.Mathlib.Omega.{arith}
use mathlib.Core.Path.{refl}
use lib.ListN.{length-set}
use Rattle.sheet.specs.Tables.{sheet_in}
use Rattle.schedule.specs.Layout.{schedule_in}
use Rattle.arrivals.proofs.Settling.{settled-sub, settled-by}
use Rattle.arrivals.proofs.settle.Goals as goal

pub overflow_sub-r : goal.overflow_sub-r
overflow_sub-r c =
    let w = c.args.w.now in
    let h = c.requires.kept in
    omega (arith, settled-sub (sheet_in w) (schedule_in w) c.args.kept.now c.args.t c.args.k c.args.a c.args.f (omega (arith, h.long)) c.requires.placeable.0 c.requires.f_bound.1 h.caches.gathered h.caches.counted c.requires.placeable.1 h.caches.ends c.word-x.ensures.0 c.store-y.ensures.0 c.word-z.ensures.0 c.word-v.ensures.0)

pub overflow_cast-kept-2 : goal.overflow_cast-kept-2
overflow_cast-kept-2 c =
    let w = c.args.w.now in
    let h = c.requires.kept in
    omega (arith, settled-sub (sheet_in w) (schedule_in w) c.args.kept.now c.args.t c.args.k c.args.a c.args.f (omega (arith, h.long)) c.requires.placeable.0 c.requires.f_bound.1 h.caches.gathered h.caches.counted c.requires.placeable.1 h.caches.ends c.word-x.ensures.0 c.store-y.ensures.0 c.word-z.ensures.0 c.word-v.ensures.0)

pub bounds-kept-k-2 : goal.bounds-kept-k-2
bounds-kept-k-2 c = simp length-set (omega arith)

pub bounds-kept-k-3 : goal.bounds-kept-k-3
bounds-kept-k-3 c = simp (length-set, length-set) (omega arith)

pub returns : goal.returns
returns c =
    let w = c.args.w.now in
    let h = c.requires.kept in
    settled-by (sheet_in w) (schedule_in w) c.args.kept.now c.args.t c.args.k c.args.a c.args.f (omega (arith, h.long)) c.requires.placeable.0 c.requires.f_bound.1 h.caches.gathered h.caches.counted c.requires.placeable.1 h.caches.ends _ refl c.word-x.ensures.0 c.store-y.ensures.0 c.word-z.ensures.0 c.word-v.ensures.0 refl refl
