-- `finish` (src/whole.rt) keeps its contract.
use Rattle.checker.proofs.Closing.{bad-clock, finish-clock, finish-stuck, good-clock}
use Rattle.checker.proofs.whole.finish.Goals as goal

pub returns-then-clock-claim : goal.returns-then-clock-claim
returns-then-clock-claim c = finish-clock _ _ _ _ _ c.in-None.is c.unfinished.ensures c.latest-clock.ensures (good-clock _ _ c.if-clock-claim.true)

pub returns-in-Some : goal.returns-in-Some
returns-in-Some c =
    rw c.at.ensures (finish-stuck _ _ _ _ c.in-Some.is c.unfinished.ensures)

pub returns-else-clock-claim : goal.returns-else-clock-claim
returns-else-clock-claim c =
    rw c.at-else-clock-claim.ensures (finish-clock _ _ _ _ _ c.in-None.is c.unfinished.ensures c.latest-clock.ensures (bad-clock _ _ c.if-clock-claim.false))
