-- `queue_things` (src/queueing.rt) keeps its contract: its loops.
use Prim.Native.Nat.{◌≤◌}
use Rattle.releasing.specs.Queues.{QueuesIs}
use Rattle.releasing.proofs.queueing.queue_things.Given as goal

abbrev pub invariant-loop-x : goal.invariant-loop-x
invariant-loop-x l = (l.a ≤ l.x) × QueuesIs l.initial.w l.w l.x l.e
