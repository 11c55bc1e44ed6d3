-- `join_on` (src/lib.rt) keeps its contract: its loops.
use Rattle.placing.proofs.Joins.{Joining}
use Rattle.placing.specs.Turn.{sheet_of, schedule_of}
use Rattle.placing.proofs.Turn.join_on.Given as goal

abbrev pub invariant-loop-i : goal.invariant-loop-i
invariant-loop-i l = Joining (sheet_of l.self) (schedule_of l.self) l.self.t l._i l.l l.best
