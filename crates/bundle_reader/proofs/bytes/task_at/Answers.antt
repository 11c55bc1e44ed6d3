-- `bundle_reader::bytes::task_at` meets its contract.
use Rattle.bundle.proofs.Faults.{fault-run}
use borrow.Author.Tests.{eq-eqb, le-leb, le-ltb, lt-leb, lt-ltb, ne_eqb}
use Rattle.bundle_reader.proofs.bytes.task_at.Goals as goal

pub returns-then-opened-eq0 : goal.returns-then-opened-eq0
returns-then-opened-eq0 c = simp (fault-run, eq-eqb _ _ c.if-opened-eq0.true)

pub returns-then-bytes-at-lt1 : goal.returns-then-bytes-at-lt1
returns-then-bytes-at-lt1 c = simp (fault-run, ne_eqb _ _ c.if-opened-eq0.false, lt-ltb _ _ c.if-bytes-at-lt1.true)

pub returns-then-tasks-get8 : goal.returns-then-tasks-get8
returns-then-tasks-get8 c = simp (fault-run, ne_eqb _ _ c.if-opened-eq0.false, le-ltb _ _ c.if-bytes-at-lt1.false, ← c.get8.ensures.0, le-leb _ _ c.if-tasks-get8.true)

pub returns-else-tasks-get8 : goal.returns-else-tasks-get8
returns-else-tasks-get8 c = simp (fault-run, ne_eqb _ _ c.if-opened-eq0.false, le-ltb _ _ c.if-bytes-at-lt1.false, ← c.get8.ensures.0, lt-leb _ _ c.if-tasks-get8.false)
