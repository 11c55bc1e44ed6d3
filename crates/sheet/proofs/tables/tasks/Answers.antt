-- `tasks` (src/tables.rt) keeps its contract.
use Rattle.sheet.proofs.Rows.{tasks-in, field-most}
use Rattle.sheet.proofs.tables.tasks.Goals as goal

pub returns : goal.returns
returns c = field-most c.word.ensures.0 (tasks-in c.args.w.now) c.requires.tasks
