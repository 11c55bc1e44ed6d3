-- `queue_one` (src/queues.rt) keeps its contract.
use native.Mathlib.Omega.{arith}
use Rattle.schedule.specs.Layout.{schedule_in}
use mathlib.Core.Path.{refl}
use lib.ListN.{length-set}
use Rattle.plan_writer.proofs.Queueing.{place-few, place_is, queued-more, turn-task}
use Rattle.plan_writer.proofs.queues.queue_one.Goals as goal

pub place-k-requires : goal.place-k-requires
place-k-requires c = record { loaded = c.requires.scheduled.loaded; t_bound = turn-task c.requires.scheduled c.args.i c.requires.i_in_bounds c.turn.ensures.0 }

pub bounds-queues-k : goal.bounds-queues-k
bounds-queues-k c = omega (arith, c.requires.queued.long, place-few c.requires.scheduled c.turn.result (turn-task c.requires.scheduled c.args.i c.requires.i_in_bounds c.turn.ensures.0) c.place-k.ensures.0)

pub bounds-queues-i : goal.bounds-queues-i
bounds-queues-i c = omega (arith, c.requires.queued.long, c.requires.i_in_bounds, c.requires.scheduled.few_placed)

pub bounds-queues-k-2 : goal.bounds-queues-k-2
bounds-queues-k-2 c = simp length-set (omega (arith, c.requires.queued.long, place-few c.requires.scheduled c.turn.result (turn-task c.requires.scheduled c.args.i c.requires.i_in_bounds c.turn.ensures.0) c.place-k.ensures.0))

pub returns : goal.returns
returns c =
    let σ = schedule_in c.args.w.now in
    queued-more σ c.args.queues.now c.args.i c.requires.i_in_bounds c.requires.scheduled.few_placed c.requires.queued c.place-k.result (place_is σ c.args.i c.turn.ensures.0 c.place-k.ensures.0) (place-few c.requires.scheduled c.turn.result (turn-task c.requires.scheduled c.args.i c.requires.i_in_bounds c.turn.ensures.0) c.place-k.ensures.0) _ refl refl refl
