-- `chain_one` (src/lib.rt) keeps its contract.
use mathlib.Core.Path.{◌∙◌, ap}
use native.Mathlib.Omega.{arith}
use lib.ListN.{length-set}
use Rattle.sheet.proofs.Rows.{link-index, ranged, task-index}
use Rattle.adjacency.specs.Chains.{half}
use Rattle.adjacency.proofs.Building.{chained-by, head_small}
use Rattle.adjacency.proofs.chain_one.Goals as goal

pub overflow_add-t : goal.overflow_add-t
overflow_add-t c = omega (arith, task-index c.args.w.now c.end_of-t.result c.requires.loaded c.end_of-t.ensures.1)

pub word-x-requires : goal.word-x-requires
word-x-requires c = omega (arith, task-index c.args.w.now c.end_of-t.result c.requires.loaded c.end_of-t.ensures.1, c.requires.loaded.long)

pub overflow_add-l : goal.overflow_add-l
overflow_add-l c = omega (arith, link-index c.args.w.now c.args.l c.requires.loaded c.requires.l_bound)

pub word-y-requires : goal.word-y-requires
word-y-requires c = omega (arith, link-index c.args.w.now c.args.l c.requires.loaded c.requires.l_bound, c.requires.loaded.long)

pub with_half-requires : goal.with_half-requires
with_half-requires c = head_small c.requires.loaded c.requires.chained_from c.end_of-t.ensures.1 (c.half.ensures ∙ ap (half c.args.e) c.word-x.ensures.0)

pub overflow_add-w : goal.overflow_add-w
overflow_add-w c = omega (arith, link-index c.args.w.now c.args.l c.requires.loaded c.requires.l_bound)

pub offset_bounds-w-l : goal.offset_bounds-w-l
offset_bounds-w-l c = omega (arith, link-index c.args.w.now c.args.l c.requires.loaded c.requires.l_bound)

pub bounds-w-l : goal.bounds-w-l
bounds-w-l c = omega (arith, link-index c.args.w.now c.args.l c.requires.loaded c.requires.l_bound, c.requires.loaded.long)

pub with_half-requires-2 : goal.with_half-requires-2
with_half-requires-2 c = omega (arith, link-index c.args.w.now c.args.l c.requires.loaded c.requires.l_bound)

pub overflow_add-w-2 : goal.overflow_add-w-2
overflow_add-w-2 c = omega (arith, task-index c.args.w.now c.end_of-t.result c.requires.loaded c.end_of-t.ensures.1)

pub offset_bounds-w-t : goal.offset_bounds-w-t
offset_bounds-w-t c = omega (arith, task-index c.args.w.now c.end_of-t.result c.requires.loaded c.end_of-t.ensures.1)

pub bounds-w-t : goal.bounds-w-t
bounds-w-t c = simp length-set (omega (arith, task-index c.args.w.now c.end_of-t.result c.requires.loaded c.end_of-t.ensures.1, c.requires.loaded.long))

pub returns : goal.returns
returns c =
    let e = c.end_of-t.ensures in
    let u = c.with_half.ensures in
    let v = c.with_half-2.ensures in
    chained-by _ _ c.requires.loaded.long (ranged c.args.w.now c.requires.loaded) c.requires.l_bound e.0 e.1 c.requires.chained_from c.word-x.ensures.0
    c.word-y.ensures.0 (u.0 ∙ c.half.ensures) u.1 v.0 v.1
