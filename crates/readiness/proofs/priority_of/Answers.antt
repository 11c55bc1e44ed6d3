-- `priority_of` (src/lib.rt) keeps its contract.
use Rattle.planner.specs.Placing.{priority}
use borrow.Author.Rules.{rules}
use Rattle.readiness.proofs.priority_of.Goals as goal

pub returns : goal.returns
unfolding priority
returns c = search rules
