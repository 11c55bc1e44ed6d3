-- `queue_all` (src/queues.rt) keeps its contract: its loops.
use Rattle.schedule.specs.Layout.{schedule_in}
use mathlib.Core.Path.{◌≡◌}
use lib.ListN.{length}
use Rattle.plan_writer.specs.Queues.{Queued}
use Rattle.plan_writer.proofs.queues.queue_all.Given as goal

abbrev pub invariant-loop-i : goal.invariant-loop-i
invariant-loop-i l = (length l.queues ≡ length l.initial.queues) × Queued (schedule_in l.w) l.i l.queues
