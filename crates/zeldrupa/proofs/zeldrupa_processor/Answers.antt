-- `zeldrupa_processor` (src/lib.rt) keeps its contract.
use Rattle.zeldrupa.proofs.States.{processor-given, processor-short}
use Rattle.zeldrupa.proofs.zeldrupa_processor.Goals as goal

pub returns-then-state-lt-LENGTH : goal.returns-then-state-lt-LENGTH
returns-then-state-lt-LENGTH c = processor-short _ _ _ c.if-state-lt-LENGTH.true

pub returns : goal.returns
returns c = processor-given _ _ _ c.if-state-lt-LENGTH.false _ c.numbers.ensures
