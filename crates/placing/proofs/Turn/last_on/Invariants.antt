-- `last_on` (src/lib.rt) keeps its contract: its loops.
use mathlib.Core.Path.{◌≡◌}
use Rattle.folds.specs.Folds.{greatest}
use Rattle.placing.specs.Ranks.{last_key}
use Rattle.placing.specs.Turn.{sheet_of, schedule_of}
use Rattle.placing.proofs.Turn.last_on.Given as goal

abbrev pub invariant-loop-k : goal.invariant-loop-k
invariant-loop-k l = l.best ≡ greatest l.k (last_key (sheet_of l.self) (schedule_of l.self) l.self.t)
