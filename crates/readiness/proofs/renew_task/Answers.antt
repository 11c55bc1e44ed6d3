-- `renew_task` (src/lib.rt) keeps its contract.
use native.Mathlib.Omega.{arith}
use Rattle.sheet.specs.Tables.{sheet_in}
use Rattle.schedule.specs.Layout.{schedule_in}
use Rattle.arrivals.proofs.Unpacking.{arrival-small}
use Rattle.readiness.proofs.Renewing.{ready-key, partly-key, ready_by, partly-by, renewed-by}
use Rattle.readiness.proofs.renew_task.Goals as goal

pub key_of-requires-2 : goal.key_of-requires-2
key_of-requires-2 c =
    let w = c.args.w.now in
    record { loaded = (c.requires.arrived.loaded, c.requires.levelled); t_bound = (c.requires.arrived.task, omega (arith, c.arrival_of-b.ensures.0, arrival-small (sheet_in w) (schedule_in w) c.args.t c.requires.arrived.ranged c.requires.chained.1)) }

pub returns : goal.returns
returns c =
    let t = c.args.t in
    let s = sheet_in c.args.w.now in
    let σ = schedule_in c.args.w.now in
    renewed-by (omega (arith, c.requires.arrived.ranged.few_tasks, c.requires.arrived.task)) c.put.ensures c.put-2.ensures
    (ready-key s σ t c.key_if-ready.ensures c.is_ready.ensures (ready_by s σ t c.key_of.ensures c.ready_arrival-a.ensures.0))
    (partly-key s σ t c.key_if-partly.ensures c.is_partly_ready.ensures (partly-by s σ t c.key_of-2.ensures c.arrival_of-b.ensures.0))
