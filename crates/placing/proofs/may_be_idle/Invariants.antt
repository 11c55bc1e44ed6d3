-- `may_be_idle` (src/lib.rt) keeps its contract: its loops.
use mathlib.Core.Path.{◌≡◌}
use Rattle.folds.specs.Folds.{any}
use Rattle.placing.specs.Ranks.{may_be_idle}
use Rattle.placing.proofs.may_be_idle.Given as goal

abbrev pub invariant-loop-k : goal.invariant-loop-k
invariant-loop-k l = l.found ≡ any l.k (may_be_idle l.kept l.a l.d)
