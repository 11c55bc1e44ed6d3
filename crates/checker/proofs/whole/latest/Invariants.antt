-- `latest` (src/whole.rt) keeps its contract: its loops.
use Rattle.stepping_machine.specs.Words.{clock_in}
use Rattle.folds.specs.Folds.{greatest}
use mathlib.Core.Path.{◌≡◌}
use Rattle.checker.proofs.whole.latest.Given as goal

abbrev pub invariant-loop-k : goal.invariant-loop-k
invariant-loop-k l = l.best ≡ greatest l.k (clock_in l.w)
