-- `start_on` (src/lib.rt) keeps its contract.
use native.Mathlib.Omega.{arith}
use Rattle.placing.proofs.Starts.{start_small}
use Rattle.placing.proofs.Turn.start_on.Goals as goal

pub returns : goal.returns
returns c =
    let turn = c.args.self.now in
    let start = turn.started.on c.args.k c.requires in
    (start, omega (arith, start, start_small turn.w.now turn.kept.now turn.t c.args.k turn.choosing c.requires))
