-- What a turn has before it.
use Rattle.sheet.specs.Sheet.{Sheet}
use Rattle.sheet.specs.Tables.{sheet_in}
use Rattle.planner.specs.Schedule.{Schedule}
use Rattle.schedule.specs.Layout.{schedule_in}
use Rattle.placing.specs.declared.Turn.{Turn}

-- the sheet in its area
abbrev pub sheet_of : Turn → Sheet
sheet_of x = sheet_in x.w.now

-- .. and the schedule there
abbrev pub schedule_of : Turn → Schedule
schedule_of x = schedule_in x.w.now
