-- `queue_thing` (src/queueing.rt) keeps its contract.
use mathlib.Core.Path.{refl}
use Rattle.releasing.proofs.Queuing.{queue-more}
use Rattle.releasing.proofs.queueing.queue_thing.Goals as goal

pub returns : goal.returns
returns c =
    let p = c.requires in
    queue-more _ _ _ _ _ _ _ p.0 p.1 c.word-r.ensures.0 refl c.word-first.ensures c.put.ensures c.put-2.ensures
