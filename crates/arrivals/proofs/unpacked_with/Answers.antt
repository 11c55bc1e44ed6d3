-- `unpacked_with` (src/lib.rt) keeps its contract.
use mathlib.Core.Path.{◌∙◌, ap}
use native.Mathlib.Omega.{arith}
use Rattle.sheet.specs.Tables.{sheet_in}
use Rattle.sheet.proofs.Rows.{ranged}
use Rattle.schedule.specs.Layout.{schedule_in}
use Rattle.planner.specs.Schedule.{place_of, finish_of}
use Rattle.arrivals.proofs.Unpacking.{fresh-by}
use Rattle.arrivals.proofs.unpacked_with.Goals as goal

pub overflow_add-received : goal.overflow_add-received
overflow_add-received c = omega (arith, c.max.ensures, c.finish.ensures.1, c.cost.ensures.1, (ranged c.args.w.now c.requires.loaded.0).unpacks)

pub returns : goal.returns
returns c =
    let σ = schedule_in c.args.w.now in
    let u = c.source-u.ensures.0 in
    fresh-by (sheet_in c.args.w.now) σ c.args.l c.args.x (c.place.ensures.0 ∙ ap (place_of σ) u) (c.finish.ensures.0 ∙ ap (finish_of σ) u) c.cost.ensures.0 c.max.ensures c.requires.x_le_latest_start.1 c.chosen.ensures
