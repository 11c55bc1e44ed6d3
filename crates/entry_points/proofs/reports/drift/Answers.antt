-- `drift` (src/reports.rt) keeps its contract.
use Rattle.entry_points.proofs.Reporting.{drift-is}
use Rattle.entry_points.proofs.reports.drift.Goals as goal

pub returns : goal.returns
returns c = drift-is _ _ c.report.ensures
