-- `zeldrupa_step` (src/lib.rt) keeps its contract.
use Rattle.zeldrupa.proofs.States.{step_given, step-short}
use Rattle.zeldrupa.proofs.zeldrupa_step.Goals as goal

pub returns-then-state-ge-LENGTH : goal.returns-then-state-ge-LENGTH
returns-then-state-ge-LENGTH c = step_given _ _ c.if-state-ge-LENGTH.true _ _ _ c.step-stepped.ensures c.counted.ensures

pub returns : goal.returns
returns c = step-short _ _ c.if-state-ge-LENGTH.false
