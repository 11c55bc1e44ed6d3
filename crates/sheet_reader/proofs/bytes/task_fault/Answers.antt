-- `task_fault` (src/bytes.rt) keeps its contract.
use Rattle.sheet.specs.Faults.{task_fault}
use borrow.Author.Tests.{eq-eqb, le-leb, lt-leb, ne_eqb}
use Rattle.sheet_reader.proofs.bytes.task_fault.Goals as goal

pub returns-then-tasks-ge256 : goal.returns-then-tasks-ge256
unfolding task_fault
returns-then-tasks-ge256 c = simp (le-leb _ _ c.if-tasks-ge256.true)

pub returns-then-work-eq0 : goal.returns-then-work-eq0
unfolding task_fault
returns-then-work-eq0 c = simp (lt-leb _ _ c.if-tasks-ge256.false, eq-eqb _ _ c.if-work-eq0.true)

pub returns : goal.returns
unfolding task_fault
returns c = simp (lt-leb _ _ c.if-tasks-ge256.false, ne_eqb _ _ c.if-work-eq0.false)
