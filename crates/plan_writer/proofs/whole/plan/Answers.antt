-- `plan` (src/whole.rt) keeps its contract.
use Rattle.std.specs.Prelude.{⊤, Result}
use Rattle.refusals.specs.declared.Refusal.{Refusal}
use Rattle.std.proofs.lemmas.Result.{err_from_is_err_and}
use mathlib.Core.Path.{◌∙◌, ap, sym}
use Rattle.turns.specs.Turns.{answer_of}
use Rattle.levelling.proofs.Opens.{open-levelled, open-loaded, open-value}
use Rattle.arrivals.proofs.Singles.{read-single}
use Rattle.plan_writer.proofs.Plans.{plan-done, plan-none, plan-refused, plan-scheduled}
use Rattle.schedule.specs.Layout.{schedule_in}
use Rattle.plan_writer.proofs.whole.plan.Goals as goal

pub schedule-requires : goal.schedule-requires
schedule-requires c =
    let h = c.read.ensures in
    let e = c.in_ok-read.was in
    record { loaded = open-loaded h e; levelled = open-levelled h e; single = read-single c.args.sheet.now _ (open-value h e) }

pub write-requires : goal.write-requires
write-requires c =
    let h = c.read.ensures in
    let e = c.in_ok-read.was in
    let planned = c.schedule in
    plan-scheduled c.args.sheet.now h e planned.ensures.1 (ap (λ (x : Result ⊤ Refusal). answer_of x (schedule_in planned.new.w)) (sym c.in_ok-schedule.was) ∙ planned.ensures.0)

pub returns-in_err-read : goal.returns-in_err-read
returns-in_err-read c =
    let p = err_from_is_err_and c.from_residual.result c.from_residual.ensures.1 in
    rw (p.1, p.2) (plan-refused c.args.sheet.now c.read.ensures c.args.out.now _ c.in_err-read.was)

pub returns-in_err-schedule : goal.returns-in_err-schedule
returns-in_err-schedule c =
    let h = c.read.ensures in
    let e = c.in_ok-read.was in
    let planned = c.schedule in
    let p = err_from_is_err_and c.from_residual-in_err-schedule.result c.from_residual-in_err-schedule.ensures.1 in
    rw (p.1, p.2) (plan-none c.args.sheet.now h e planned.ensures.1 c.args.out.now _ (ap (λ (x : Result ⊤ Refusal). answer_of x (schedule_in planned.new.w)) (sym c.in_err-schedule.was) ∙ planned.ensures.0))

pub returns : goal.returns
returns c =
    let h = c.read.ensures in
    let e = c.in_ok-read.was in
    let planned = c.schedule in
    plan-done c.args.sheet.now h e planned.ensures.1 (ap (λ (x : Result ⊤ Refusal). answer_of x (schedule_in planned.new.w)) (sym c.in_ok-schedule.was) ∙ planned.ensures.0) c.args.out.now _ c.write.ensures
