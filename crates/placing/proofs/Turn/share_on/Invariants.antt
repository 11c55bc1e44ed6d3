-- `share_on` (src/lib.rt) keeps its contract: its loops.
use mathlib.Core.Option.{none}
use mathlib.Core.Path.{◌≡◌}
use Rattle.folds.specs.Folds.{first}
use Rattle.planner.specs.Placing.{barred}
use Rattle.planner.specs.Planner.{may_share}
use Rattle.placing.specs.Turn.{sheet_of, schedule_of}
use Rattle.placing.proofs.Turn.share_on.Given as goal

abbrev pub invariant-loop-k : goal.invariant-loop-k
invariant-loop-k l = first l.k (may_share (sheet_of l.self) (barred (sheet_of l.self)) (schedule_of l.self) l.self.t) ≡ none
