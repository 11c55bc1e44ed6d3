-- `ranked` (src/choosing.rt) keeps its contract.
use Rattle.better.proofs.Ranking.{compared}
use Rattle.better.proofs.choosing.ranked.Goals as goal

pub returns-in-Some-b-2 : goal.returns-in-Some-b-2
returns-in-Some-b-2 c =
    let lent = c.args in
    compared lent.first.now lent.second.now lent.a lent.b _ _ _ _ _ _ _ _ c.in-Some.is c.in-Some-b-2.is
    c.cmp-claims.ensures c.cmp-counts.ensures c.then.ensures c.cmp.ensures c.then-in-Some-b-2.ensures c.preferred.ensures
