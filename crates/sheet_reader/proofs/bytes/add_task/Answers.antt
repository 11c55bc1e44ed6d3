-- `add_task` (src/bytes.rt) keeps its contract.
use Rattle.sheet.specs.Tables.{task_words}
use mathlib.Core.Path.{◌∙◌, ap₂}
use Rattle.sheet_reader.proofs.bytes.add_task.Goals as goal

pub returns : goal.returns
returns c = c.put_task.ensures ∙ ap₂ (task_words c.args.w.now c.args.tasks) c.get16.ensures c.get16-2.ensures
