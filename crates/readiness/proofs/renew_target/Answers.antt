-- `renew_target` (src/lib.rt) keeps its contract.
use mathlib.Core.Bool.{true, false}
use mathlib.Core.Path.{refl, ◌∙◌}
use native.Mathlib.Omega.{arith}
use Rattle.sheet.specs.Tables.{sheet_in}
use Rattle.schedule.specs.Layout.{schedule_in}
use Rattle.arrivals.proofs.Unpacking.{arrival-small}
use Rattle.readiness.proofs.Counts.{all_known, some_known}
use Rattle.readiness.proofs.Renewing.{ready-key, partly-key, ready_by, partly-by, as-was, renewed-by}
use Rattle.readiness.proofs.renew_target.Goals as goal

pub key_of-key-requires-else-word : goal.key_of-key-requires-else-word
key_of-key-requires-else-word c =
    let w = c.args.w.now in
    record { loaded = (c.requires.arrived.loaded, c.requires.levelled); t_bound = (c.requires.arrived.task, omega (arith, c.arrival_of-a.ensures.0, arrival-small (sheet_in w) (schedule_in w) c.args.t c.requires.arrived.ranged c.requires.chained.1)) }

pub raise-requires-else-word : goal.raise-requires-else-word
raise-requires-else-word c =
    let t = c.args.t in
    let w = c.args.w.now in
    let wait = c.requires.waiting in
    record { blocked = c.requires.blocked; i_bound = (omega (arith, c.requires.arrived.ranged.few_tasks, c.requires.arrived.task), omega (arith, wait.partly, partly-by (sheet_in w) (schedule_in w) t c.key_of-key-else-word.ensures c.arrival_of-a.ensures.0)) }

pub returns-then-word : goal.returns-then-word
returns-then-word c =
    let t = c.args.t in
    let s = sheet_in c.args.w.now in
    let σ = schedule_in c.args.w.now in
    let wait = c.requires.waiting in
    let is = all_known c.requires.arrived c.word.ensures.0 c.word-2.ensures.0 wait.free c.if-word.true in
    renewed-by (omega (arith, c.requires.arrived.ranged.few_tasks, c.requires.arrived.task)) c.raise.ensures c.put.ensures
    (ready-key s σ t {b = true} refl is.0 (ready_by s σ t c.key_of-key.ensures c.ready_arrival-a.ensures.0)) (partly-key s σ t {b = false} refl is.1 refl)

pub returns-else-word : goal.returns-else-word
returns-else-word c =
    let t = c.args.t in
    let s = sheet_in c.args.w.now in
    let σ = schedule_in c.args.w.now in
    let wait = c.requires.waiting in
    let is = some_known c.requires.arrived c.word.ensures.0 c.word-2.ensures.0 wait.free wait.known c.if-word.false in
    renewed-by (omega (arith, c.requires.arrived.ranged.few_tasks, c.requires.arrived.task)) (as-was c.requires.blocked t) c.raise-else-word.ensures
    (wait.ready ∙ ready-key s σ t {b = false} refl is.0 refl) (partly-key s σ t {b = true} refl is.1 (partly-by s σ t c.key_of-key-else-word.ensures c.arrival_of-a.ensures.0))
