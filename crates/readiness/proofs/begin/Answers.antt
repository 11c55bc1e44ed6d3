-- `begin` (src/lib.rt) keeps its contract.
use native.Mathlib.Omega.{arith}
use Rattle.arrivals.proofs.Walks.{kept-arrived}
use Rattle.readiness.proofs.Renewing.{keyed-more, keyed-none, keyed-at}
use Rattle.readiness.proofs.begin.Goals as goal

pub loop-t-init : goal.loop-t-init
loop-t-init c = keyed-none c.requires.q_value

pub renew_task-requires : goal.renew_task-requires
renew_task-requires c = record { arrived = kept-arrived c.requires.kept c.loop-t.t (omega (arith, c.loop-t-test.true, c.tasks-n.ensures.0)); levelled = c.requires.levelled; chained = (c.requires.kept.caches.inward, c.requires.early); blocked = c.loop-t.invariant.blocked }

pub loop-t-preserved : goal.loop-t-preserved
loop-t-preserved c = keyed-more c.renew_task.ensures (omega (arith, c.loop-t-test.true, c.tasks-n.ensures.1)) c.loop-t.invariant

pub returns : goal.returns
returns c = keyed-at c.loop-t.invariant (omega (arith, c.loop-t.auto.t-end, c.loop-t-test.false, c.tasks-n.ensures.0))
