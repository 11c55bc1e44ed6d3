-- `gather_one` (src/lib.rt) keeps its contract.
use Prim.Native.Nat.{◌+◌}
use native.Mathlib.Omega.{arith}
use mathlib.Core.Path.{refl}
use lib.ListN.{get_or, length-set}
use lib.Seq.{get_or-set_other}
use Rattle.sheet.specs.Tables.{sheet_in}
use Rattle.sheet.proofs.Rows.{ranged, task-index}
use Rattle.arrivals.specs.Layout.{bytes_from}
use Rattle.arrivals.proofs.Gathering.{gather-small, gathered-by}
use Rattle.arrivals.proofs.gather_one.Goals as goal

pub overflow_add-kept : goal.overflow_add-kept
overflow_add-kept c =
    let w = c.args.w.now in
    omega (arith, gather-small (sheet_in w) c.args.kept.now c.args.l c.requires.loaded.1 (ranged w c.requires.loaded.0) c.requires.l_bound c.requires.gathered_to c.target-t.result c.target-t.ensures.1)

pub bounds-kept-t : goal.bounds-kept-t
bounds-kept-t c = omega (arith, task-index c.args.w.now c.target-t.result c.requires.loaded.0 c.target-t.ensures.1, c.requires.loaded.1)

pub bounds-kept-t-2 : goal.bounds-kept-t-2
bounds-kept-t-2 c = omega (arith, task-index c.args.w.now c.target-t.result c.requires.loaded.0 c.target-t.ensures.1, c.requires.loaded.1)

pub overflow_add-kept-2 : goal.overflow_add-kept-2
overflow_add-kept-2 c = omega (arith, task-index c.args.w.now c.target-t.result c.requires.loaded.0 c.target-t.ensures.1)

pub overflow_add-kept-3 : goal.overflow_add-kept-3
overflow_add-kept-3 c =
    let w = c.args.w.now in
    let t = c.target-t.result in
    let own = c.args.kept.now in
    let e = get_or-set_other own t (bytes_from + t) (get_or own t 0 + 1) 0 (omega arith) in
    omega (arith, gather-small (sheet_in w) own c.args.l c.requires.loaded.1 (ranged w c.requires.loaded.0) c.requires.l_bound c.requires.gathered_to t c.target-t.ensures.1, e, c.size.ensures.1)

pub offset_bounds-kept-t : goal.offset_bounds-kept-t
offset_bounds-kept-t c = omega (arith, task-index c.args.w.now c.target-t.result c.requires.loaded.0 c.target-t.ensures.1)

pub offset_bounds-kept-t-2 : goal.offset_bounds-kept-t-2
offset_bounds-kept-t-2 c = omega (arith, task-index c.args.w.now c.target-t.result c.requires.loaded.0 c.target-t.ensures.1)

pub bounds-kept-t-3 : goal.bounds-kept-t-3
bounds-kept-t-3 c = simp length-set (omega (arith, task-index c.args.w.now c.target-t.result c.requires.loaded.0 c.target-t.ensures.1, c.requires.loaded.1))

pub bounds-kept-t-4 : goal.bounds-kept-t-4
bounds-kept-t-4 c = simp length-set (omega (arith, task-index c.args.w.now c.target-t.result c.requires.loaded.0 c.target-t.ensures.1, c.requires.loaded.1))

pub returns : goal.returns
returns c =
    let w = c.args.w.now in
    let t = c.target-t.result in
    let own = c.args.kept.now in
    let e = get_or-set_other own t (bytes_from + t) (get_or own t 0 + 1) 0 (omega arith) in
    gathered-by (sheet_in w) own c.args.l c.requires.loaded.1 (ranged w c.requires.loaded.0) c.requires.l_bound c.requires.gathered_to _ c.target-t.ensures.0 c.size.ensures.0 refl e refl refl refl
