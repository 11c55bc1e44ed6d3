-- `copy_levels` (src/sheets.rt) keeps its contract.
use Prim.Native.Nat.{◌+◌, ℕ}
use Rattle.workspace.specs.Area.{levels_at}
use Rattle.folds.specs.Folds.{listed}
use Rattle.graph.specs.Graph.{level}
use Rattle.numbers.specs.Number.{stored}
use Rattle.sheet.specs.Sheet.{task_count}
use Rattle.sheet.specs.Tables.{sheet_in}
use Rattle.entry_points.proofs.Opening.{level-next, level-none}
use Rattle.entry_points.specs.Values.{levels_of}
use lib.ListN.{get_or, length-set}
use mathlib.Core.Path.{◌∙◌, ◌≡◌, ap, refl}
use native.Mathlib.Omega.{arith}
use Rattle.entry_points.proofs.sheets.copy_levels.Goals as goal

pub loop-t-init : goal.loop-t-init
loop-t-init c = (omega arith, refl, level-none (level (sheet_in c.args.w.now)) _)

pub bounds-w-t : goal.bounds-w-t
bounds-w-t c = omega (arith, c.tasks-n.ensures.1, c.requires.loaded.long)

pub bounds-out-t : goal.bounds-out-t
bounds-out-t c = omega (arith, c.tasks-n.ensures.0, c.requires.w_in_bounds, c.loop-t.invariant.1, c.loop-t-test.true)

pub loop-t-preserved : goal.loop-t-preserved
loop-t-preserved c =
    let s = sheet_in c.args.w.now in
    let t = c.loop-t.t in (
      omega (arith, c.loop-t-test.true, c.tasks-n.ensures.0),
      length-set c.loop-t.out t (get_or c.args.w.now (levels_at + t) 0) ∙ c.loop-t.invariant.1,
      level-next (level s) c.args.out.now c.loop-t.out t _ c.loop-t.invariant.2 (omega (arith, c.tasks-n.ensures.0, c.requires.w_in_bounds, c.loop-t.invariant.1, c.loop-t-test.true)) (c.requires.levelled.levels t (omega (arith, c.tasks-n.ensures.0, c.loop-t-test.true))),
    )

pub shape_of-out : goal.shape_of-out
shape_of-out c = c.loop-t.invariant.1

pub returns : goal.returns
unfolding levels_of
returns c =
    let e : c.loop-t.t ≡ task_count (sheet_in c.args.w.now) = omega (arith, c.tasks-n.ensures.0, c.loop-t-test.false, c.loop-t.invariant.0) in
    c.loop-t.invariant.2 ∙ ap (λ (k : ℕ). stored c.args.out.now 0 (listed k (level (sheet_in c.args.w.now)))) e
