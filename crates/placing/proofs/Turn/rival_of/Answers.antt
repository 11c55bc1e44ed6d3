-- `rival_of` (src/lib.rt) keeps its contract.
use Rattle.arrivals.proofs.Walks.{kept-arrived}
use Rattle.workspace.proofs.Searches.{below_at}
use Rattle.placing.proofs.Guards.{priority-by, rival-ahead, rival-behind, rival-none}
use Rattle.placing.proofs.Turn.rival_of.Goals as goal

pub priority_of-requires : goal.priority_of-requires
priority_of-requires c =
    let turn = c.args.self.now in
    record { arrived = kept-arrived turn.choosing.kept _ (below_at _ c.in-Some.is c.first_partly.ensures.1); levelled = turn.choosing.levelled }

pub returns-then-self-level_of : goal.returns-then-self-level_of
returns-then-self-level_of c =
    let turn = c.args.self.now in
    let partly = c.first_partly.ensures in
    let here = c.in-Some.is in
    (rival-ahead _ _ turn.t partly.0 here (priority-by _ _ turn.t turn.arrival.0 c.level_of.ensures.0) c.priority_of.ensures.0 c.if-self-level_of.true, below_at _ here partly.1)

pub returns-in-None : goal.returns-in-None
returns-in-None c = (rival-none _ _ c.args.self.now.t c.first_partly.ensures.0 c.in-None.is, tt)

pub returns-else-self-level_of : goal.returns-else-self-level_of
returns-else-self-level_of c =
    let turn = c.args.self.now in
    let partly = c.first_partly.ensures in
    (rival-behind _ _ turn.t partly.0 c.in-Some.is (priority-by _ _ turn.t turn.arrival.0 c.level_of.ensures.0) c.priority_of.ensures.0 c.if-self-level_of.false, tt)
