-- `queue_all` (src/queues.rt) keeps its contract.
use native.Mathlib.Omega.{arith}
use Rattle.schedule.specs.Layout.{schedule_in}
use Prim.Native.Nat.{ℕ}
use mathlib.Core.Path.{◌∙◌, ap, refl, subst, sym}
use lib.ListN.{replicate}
use Rattle.plan_writer.specs.Queues.{Queued}
use Rattle.plan_writer.proofs.Queueing.{queued-none}
use Rattle.plan_writer.proofs.queues.queue_all.Goals as goal

pub loop-i-init : goal.loop-i-init
loop-i-init c = (refl, queued-none (schedule_in c.args.w.now) c.args.queues.now _ c.placed-i.ensures.0 (c.requires.queues_value ∙ ap (λ (x : ℕ). replicate 272 x) (sym c.placed-i.ensures.0)))

pub queue_one-requires : goal.queue_one-requires
queue_one-requires c =
    let l = c.loop-i in
    record { scheduled = c.requires.scheduled; i_in_bounds = omega (arith, l.auto.i, c.placed-i.ensures.0, c.loop-i-test.true); queued = subst (λ (x : ℕ). Queued (schedule_in c.args.w.now) x l.queues) (omega (arith, c.loop-i-test.true)) l.invariant.1 }

pub loop-i-preserved : goal.loop-i-preserved
loop-i-preserved c = let l = c.loop-i in (c.queue_one.auto.queues ∙ l.invariant.0, c.queue_one.ensures)

pub shape_of-queues : goal.shape_of-queues
shape_of-queues c = c.loop-i.invariant.0

pub returns : goal.returns
returns c = subst (λ (x : ℕ). Queued (schedule_in c.args.w.now) x c.loop-i.queues) (omega (arith, c.loop-i-test.false)) c.loop-i.invariant.1
