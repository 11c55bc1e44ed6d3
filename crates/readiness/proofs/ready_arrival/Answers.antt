-- `ready_arrival` (src/lib.rt) keeps its contract.
use mathlib.Core.Path.{sym, ◌∙◌}
use native.Mathlib.Omega.{arith}
use Rattle.sheet.specs.Tables.{sheet_in}
use Rattle.schedule.specs.Layout.{schedule_in}
use Rattle.planner.proofs.Unpacking.{arrival-none}
use Rattle.arrivals.proofs.Unpacking.{arrival-small}
use Rattle.readiness.proofs.ready_arrival.Goals as goal

pub returns-then-unpacking-eq0 : goal.returns-then-unpacking-eq0
returns-then-unpacking-eq0 c =
    let s = sheet_in c.args.w.now in
    let σ = schedule_in c.args.w.now in
    let is = c.arrival_of.ensures.0 in
    (is ∙ sym (arrival-none s σ c.args.t (sym c.unpacking-unpacking.ensures.0 ∙ c.if-unpacking-eq0.true)), omega (arith, is, arrival-small s σ c.args.t c.requires.arrived.ranged c.requires.chained.1))
