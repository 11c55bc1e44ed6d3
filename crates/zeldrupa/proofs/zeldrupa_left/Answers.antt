-- `zeldrupa_left` (src/lib.rt) keeps its contract.
use Rattle.zeldrupa.proofs.States.{left-given, left-short}
use Rattle.zeldrupa.proofs.zeldrupa_left.Goals as goal

pub returns-then-state-lt-LENGTH : goal.returns-then-state-lt-LENGTH
returns-then-state-lt-LENGTH c = left-short _ c.if-state-lt-LENGTH.true

pub returns : goal.returns
returns c = left-given _ c.if-state-lt-LENGTH.false _ c.left.ensures
