-- `choose` (src/choosing.rt) keeps its contract.
use Rattle.better.proofs.Handing.{area-short, area-cleared}
use Rattle.better.proofs.choosing.choose.Goals as goal

pub returns-then-work-lt-LENGTH : goal.returns-then-work-lt-LENGTH
returns-then-work-lt-LENGTH c =
    let a = c.args in
    rw c.at.ensures (area-short a.sheet.now a.first.now a.second.now a.work.now c.if-work-lt-LENGTH.true)

pub returns : goal.returns
returns c = let a = c.args in area-cleared a.sheet.now a.first.now a.second.now a.work.now _ _ _ c.if-work-lt-LENGTH.false c.opened-c.ensures c.clear.ensures
