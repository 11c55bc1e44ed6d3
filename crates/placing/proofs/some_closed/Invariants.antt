-- `some_closed` (src/lib.rt) keeps its contract: its loops.
use mathlib.Core.Path.{◌≡◌}
use Rattle.folds.specs.Folds.{any}
use Rattle.placing.specs.Sets.{closed_in}
use Rattle.placing.proofs.some_closed.Given as goal

abbrev pub invariant-loop-k : goal.invariant-loop-k
invariant-loop-k l = l.found ≡ any l.k (closed_in l.kept)
