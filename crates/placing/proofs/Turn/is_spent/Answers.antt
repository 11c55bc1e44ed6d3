-- `is_spent` (src/lib.rt) keeps its contract.
use Rattle.placing.proofs.Spent.{spent-kept}
use Rattle.placing.proofs.Turn.is_spent.Goals as goal

pub returns : goal.returns
returns c =
    let turn = c.args.self.now in
    spent-kept turn.w.now turn.kept.now turn.t c.args.k turn.choosing c.requires.1 c.requires.2 c.due_of.ensures
