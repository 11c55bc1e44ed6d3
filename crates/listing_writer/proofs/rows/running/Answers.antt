-- `running` (src/rows.rt) keeps its contract.
use Prim.Native.Nat.{◌<◌}
use mathlib.Core.Path.{refl, sym}
use native.Mathlib.Omega.{arith}
use Rattle.folds.proofs.Loops.{sum-zero}
use Rattle.schedule.specs.Layout.{schedule_in}
use Rattle.sheet.specs.Tables.{sheet_in}
use Rattle.listing_writer.proofs.Running.{mark-low, count-more, count-end}
use Rattle.listing_writer.proofs.rows.running.Goals as goal

pub loop-k-init : goal.loop-k-init
loop-k-init c = (omega arith, sym (sum-zero _))

pub offset_bounds-runs-k : goal.offset_bounds-runs-k
offset_bounds-runs-k c = omega (arith, c.loop-k-test.true, c.processors-n.ensures.1)

pub bounds-runs-k : goal.bounds-runs-k
bounds-runs-k c = omega (arith, c.loop-k-test.true, c.processors-n.ensures.1)

pub overflow_add-found : goal.overflow_add-found
overflow_add-found c =
    let w = c.args.w.now in
    let below : c.loop-k.k < 16 = omega (arith, c.loop-k-test.true, c.processors-n.ensures.1) in
    omega (arith, c.loop-k.invariant.0, below, mark-low (sheet_in w) (schedule_in w) c.runs_of-runs.ensures below refl)

pub loop-k-preserved : goal.loop-k-preserved
loop-k-preserved c =
    let w = c.args.w.now in
    let loop = c.loop-k in
    let marked = c.runs_of-runs.ensures in
    let below : loop.k < 16 = omega (arith, c.loop-k-test.true, c.processors-n.ensures.1) in
    (omega (arith, loop.invariant.0, mark-low (sheet_in w) (schedule_in w) marked below refl), count-more (sheet_in w) (schedule_in w) marked loop.invariant.1 below refl)

pub returns : goal.returns
returns c =
    let w = c.args.w.now in
    let loop = c.loop-k in
    let n = c.processors-n.ensures in
    (count-end (sheet_in w) (schedule_in w) loop.invariant.1 (omega (arith, loop.auto.k-end, c.loop-k-test.false)) n.0, omega (arith, loop.invariant.0, loop.auto.k-end, n.1))
