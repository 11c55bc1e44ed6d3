-- `bars_of` (src/lib.rt) keeps its contract.
use Rattle.workspace.proofs.Searches.{below_at}
use Rattle.placing.proofs.Guards.{guard_none, guard-some}
use Rattle.placing.proofs.Turn.bars_of.Goals as goal

pub bars_for-requires : goal.bars_for-requires
bars_for-requires c = below_at _ c.in-Some.is c.requires.1

pub returns-in-None : goal.returns-in-None
returns-in-None c = guard_none _ _ c.args.self.now.t c.requires.0 c.in-None.is

pub returns-in-Some : goal.returns-in-Some
returns-in-Some c = guard-some _ _ c.args.self.now.t c.requires.0 c.in-Some.is c.bars_for.ensures
