-- `zeldrupa_stamp` (src/lib.rt) keeps its contract.
use Rattle.zeldrupa.proofs.States.{stamp-given, stamp-short}
use Rattle.zeldrupa.proofs.zeldrupa_stamp.Goals as goal

pub returns-then-state-lt-LENGTH : goal.returns-then-state-lt-LENGTH
returns-then-state-lt-LENGTH c = stamp-short _ _ c.if-state-lt-LENGTH.true

pub returns : goal.returns
returns c = stamp-given _ _ c.if-state-lt-LENGTH.false _ c.stamp.ensures
