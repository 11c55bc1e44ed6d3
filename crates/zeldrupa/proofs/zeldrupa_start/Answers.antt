-- `zeldrupa_start` (src/lib.rt) keeps its contract.
use Rattle.zeldrupa.proofs.States.{given-short-state, given-short-work, given-state}
use Rattle.zeldrupa.proofs.zeldrupa_start.Goals as goal

pub returns-then-work-lt-LENGTH : goal.returns-then-work-lt-LENGTH
returns-then-work-lt-LENGTH c = given-short-work _ _ _ _ _ _ c.if-work-lt-LENGTH.true

pub returns-then-state-lt-LENGTH : goal.returns-then-state-lt-LENGTH
returns-then-state-lt-LENGTH c = given-short-state _ _ _ _ _ _ c.if-work-lt-LENGTH.false c.if-state-lt-LENGTH.true

pub returns : goal.returns
returns c = given-state _ _ _ _ _ _ c.if-work-lt-LENGTH.false c.if-state-lt-LENGTH.false _ _ _ _ _ _ c.start-o.ensures c.clear.ensures c.conclude.ensures
