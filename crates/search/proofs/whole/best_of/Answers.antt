-- `best_of` (src/whole.rt) keeps its contract.
use native.Mathlib.Omega.{arith}
use Rattle.search.proofs.Ends.{begins-empty, none_right, best-done}
use Rattle.search.proofs.whole.best_of.Goals as goal

pub walk-requires : goal.walk-requires
walk-requires c = (c.requires, begins-empty _ _, omega arith, none_right _)

pub returns : goal.returns
returns c = best-done _ _ _ c.walk.ensures
