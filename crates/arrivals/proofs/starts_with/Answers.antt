-- `starts_with` (src/lib.rt) keeps its contract.
use mathlib.Core.Path.{refl, sym, ap, ◌∙◌}
use native.Mathlib.Omega.{arith}
use Rattle.sheet.specs.Sheet.{source_of}
use Rattle.sheet.specs.Tables.{sheet_in}
use Rattle.sheet.proofs.Rows.{ranged}
use Rattle.schedule.specs.Layout.{schedule_in}
use Rattle.planner.specs.Schedule.{place_of, finish_of}
use Rattle.arrivals.proofs.Reaching.{placed-low, beyond-hopped, beyond-plain, beyond-unpacked}
use Rattle.arrivals.proofs.starts_with.Goals as goal

pub hops_from-requires : goal.hops_from-requires
hops_from-requires c =
    let w = c.args.w.now in
    placed-low (schedule_in w) (source_of (sheet_in w) c.args.l) c.place-k.ensures.0 c.source-u.ensures.0 c.requires.loaded.2

pub starts_hopped-requires : goal.starts_hopped-requires
starts_hopped-requires c = (c.requires.early.1, omega (arith, c.finish-f.ensures.0, c.requires.early.0.early c.source-u.result), omega (arith, c.requires.early.3, (ranged c.args.w.now c.requires.loaded.0).unpacks))

pub returns-then-cube : goal.returns-then-cube
returns-then-cube c =
    let σ = schedule_in c.args.w.now in
    let u = c.source-u.ensures.0 in
    beyond-hopped (sheet_in c.args.w.now) σ c.args.l c.args.starts (c.place-k.ensures.0 ∙ ap (place_of σ) u) (c.finish-f.ensures.0 ∙ ap (finish_of σ) u) c.cost-cost.ensures.0 c.requires.early.3
    (sym c.requires.early.2 ∙ c.if-cube.true) refl c.hops_from.ensures c.starts_hopped.ensures

pub starts_past-requires : goal.starts_past-requires
starts_past-requires c = (omega (arith, c.finish-f.ensures.0, c.requires.early.0.early c.source-u.result), omega (arith, c.cost-cost.ensures.1))

pub returns-then-unpacking-eq0 : goal.returns-then-unpacking-eq0
returns-then-unpacking-eq0 c =
    let σ = schedule_in c.args.w.now in
    let u = c.source-u.ensures.0 in
    beyond-plain (sheet_in c.args.w.now) σ c.args.l c.args.starts (c.place-k.ensures.0 ∙ ap (place_of σ) u) (c.finish-f.ensures.0 ∙ ap (finish_of σ) u) (c.cost-cost.ensures.0) c.requires.early.3
    (sym c.requires.early.2 ∙ c.if-cube.false) c.if-unpacking-eq0.true c.starts_past.ensures

pub overflow_add-f : goal.overflow_add-f
overflow_add-f c = record { fits = omega (arith, c.finish-f.ensures.0, c.requires.early.0.early c.source-u.result, c.cost-cost.ensures.1) }

pub starts_unpacked-requires : goal.starts_unpacked-requires
starts_unpacked-requires c = (
  c.requires.early.1,
  omega (arith, c.finish-f.ensures.0, c.requires.early.0.early c.source-u.result, c.cost-cost.ensures.1),
  omega (arith, c.requires.early.3, (ranged c.args.w.now c.requires.loaded.0).unpacks),
)

pub returns-else-unpacking-eq0 : goal.returns-else-unpacking-eq0
returns-else-unpacking-eq0 c =
    let σ = schedule_in c.args.w.now in
    let u = c.source-u.ensures.0 in
    beyond-unpacked (sheet_in c.args.w.now) σ c.args.l c.args.starts (c.place-k.ensures.0 ∙ ap (place_of σ) u) (c.finish-f.ensures.0 ∙ ap (finish_of σ) u) (c.cost-cost.ensures.0) c.requires.early.3
    (sym c.requires.early.2 ∙ c.if-cube.false) c.if-unpacking-eq0.false c.starts_unpacked.ensures
