-- `survey_links` (src/lib.rt) keeps its contract: its loops.
use Rattle.sheet.specs.Tables.{sheet_in}
use Rattle.schedule.specs.Layout.{schedule_in}
use Rattle.arrivals.proofs.Surveys.{Surveying}
use Rattle.arrivals.proofs.survey_links.Given as goal

abbrev pub invariant-loop-i : goal.invariant-loop-i
invariant-loop-i l = Surveying (sheet_in l.w) (schedule_in l.w) l.t l._i l.l l.initial.kept l.kept l.starts
