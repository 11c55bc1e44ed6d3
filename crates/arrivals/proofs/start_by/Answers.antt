-- `start_by` (src/lib.rt) keeps its contract.
use mathlib.Core.Path.{◌∙◌, ap, refl}
use native.Mathlib.Omega.{arith}
use lib.Dec.{eqb}
use Rattle.folds.proofs.Tests.{pick-le}
use Rattle.sheet.specs.Tables.{sheet_in}
use Rattle.sheet.specs.Sheet.{target_of}
use Rattle.schedule.specs.Layout.{schedule_in}
use Rattle.planner.specs.Schedule.{place_of, finish_of}
use Rattle.arrivals.proofs.Reaching.{by-is}
use Rattle.arrivals.proofs.start_by.Goals as goal

pub overflow_add-finish : goal.overflow_add-finish
overflow_add-finish c =
    let x = c.time_to.result in
    omega (arith, c.finish.ensures.1, c.chosen-c.ensures, c.time_to.ensures.1, pick-le (eqb c.place-at.result c.args.k) 0 x x (omega arith) (omega arith))

pub returns : goal.returns
returns c =
    let a = c.args in
    let s = sheet_in a.w.now in
    let σ = schedule_in a.w.now in
    let u = c.source-u.ensures.0 in
    by-is s σ (target_of s a.l) a.k a.l refl (c.place-at.ensures.0 ∙ ap (place_of σ) u) (c.finish.ensures.0 ∙ ap (finish_of σ) u) c.time_to.ensures.0 c.chosen-c.ensures c.chosen.ensures
