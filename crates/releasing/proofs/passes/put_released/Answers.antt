-- `put_released` (src/passes.rt) keeps its contract.
use Rattle.releasing.proofs.Endings.{released-short, released-fits}
use Rattle.releasing.proofs.passes.put_released.Goals as goal

pub returns-then-out-need : goal.returns-then-out-need
returns-then-out-need c =
    rw c.at.ensures (released-short c.insert-need.ensures c.if-out-need.true)

pub returns : goal.returns
returns c = released-fits c.insert-need.ensures c.insert.ensures c.if-out-need.false
