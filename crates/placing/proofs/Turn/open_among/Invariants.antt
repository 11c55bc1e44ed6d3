-- `open_among` (src/lib.rt) keeps its contract: its loops.
use Rattle.planner.specs.Placing.{barred, start_on}
use Rattle.planner.specs.Planner.{may_open}
use Rattle.placing.specs.Turn.{sheet_of, schedule_of}
use Rattle.placing.proofs.Ties.{Ties}
use Rattle.placing.proofs.Turn.open_among.Given as goal

abbrev pub invariant-loop-k : goal.invariant-loop-k
invariant-loop-k l = Ties l.k (may_open (sheet_of l.self) (barred (sheet_of l.self)) (schedule_of l.self) l.self.t) (start_on (sheet_of l.self) (schedule_of l.self) l.self.t) l.tied
