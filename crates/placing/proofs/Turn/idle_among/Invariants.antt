-- `idle_among` (src/lib.rt) keeps its contract: its loops.
use mathlib.Core.Path.{◌≡◌}
use Rattle.folds.specs.Folds.{greatest}
use Rattle.placing.specs.Ranks.{idle_key}
use Rattle.placing.specs.Turn.{sheet_of, schedule_of}
use Rattle.placing.proofs.Turn.idle_among.Given as goal

abbrev pub invariant-loop-k : goal.invariant-loop-k
invariant-loop-k l = l.best ≡ greatest l.k (idle_key (sheet_of l.self) (schedule_of l.self) l.self.t)
