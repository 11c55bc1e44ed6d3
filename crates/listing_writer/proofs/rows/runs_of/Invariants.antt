-- `runs_of` (src/rows.rt) keeps its contract: its loops.
use Rattle.schedule.specs.Layout.{schedule_in}
use Rattle.listing_writer.proofs.Running.{Marks}
use Rattle.listing_writer.proofs.rows.runs_of.Given as goal

abbrev pub invariant-loop-t : goal.invariant-loop-t
invariant-loop-t l = Marks (schedule_in l.w) l.t l.r.at
