-- `queue_all` (src/queueing.rt) keeps its contract.
use Rattle.releasing.proofs.Queuing.{queue-all}
use Rattle.releasing.proofs.queueing.queue_all.Goals as goal

pub returns : goal.returns
returns c =
    let p = c.requires in
    queue-all _ _ p.0 p.1 p.2 c.clear_words.ensures c.queue_things.ensures c.queue_things-2.ensures
