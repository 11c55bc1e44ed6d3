-- `join_bars_of` (src/lib.rt) keeps its contract.
use Rattle.workspace.proofs.Searches.{below_at}
use Rattle.placing.proofs.Guards.{join-guard-none, join-guard-some}
use Rattle.placing.proofs.Turn.join_bars_of.Goals as goal

pub join_bars_for-requires : goal.join_bars_for-requires
join_bars_for-requires c = below_at _ c.in-Some.is c.requires.1

pub returns-in-None : goal.returns-in-None
returns-in-None c = join-guard-none _ _ c.args.self.now.t c.requires.0 c.in-None.is

pub returns-in-Some : goal.returns-in-Some
returns-in-Some c = join-guard-some _ _ c.args.self.now.t c.requires.0 c.in-Some.is c.join_bars_for.ensures
