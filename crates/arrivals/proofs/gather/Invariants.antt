-- `gather` (src/lib.rt) keeps its contract: its loops.
use Rattle.sheet.specs.Tables.{sheet_in}
use Rattle.adjacency.specs.Frames.{Only}
use Rattle.arrivals.specs.Layout.{seen_from}
use Rattle.arrivals.specs.Steps.{GatheredTo}
use Rattle.arrivals.proofs.gather.Given as goal

abbrev pub invariant-loop-l : goal.invariant-loop-l
invariant-loop-l l = Only 0 seen_from l.initial.kept l.kept × GatheredTo (sheet_in l.w) l.l l.kept
