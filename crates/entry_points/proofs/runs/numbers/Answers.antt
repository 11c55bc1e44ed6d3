-- `numbers` (src/runs.rt) keeps its contract.
use Rattle.entry_points.proofs.Running.{numbers-are}
use Rattle.entry_points.proofs.runs.numbers.Goals as goal

pub returns : goal.returns
returns c = numbers-are _ _ _ _ _ _ _ _ c.clock.ensures c.position.ensures c.store.ensures c.narrow-clock.ensures c.narrow-position.ensures c.narrow-store.ensures
