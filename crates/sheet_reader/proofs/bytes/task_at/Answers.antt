-- `task_at` (src/bytes.rt) keeps its contract.
use Rattle.commands.specs.Commands.{verdict}
use Rattle.sheet.proofs.Judging.{task-cut, task-numbers, task-turn}
use Rattle.sheet.specs.Format.{sheet_format, task}
use Rattle.sheet_reader.proofs.Scans.{told}
use mathlib.Core.Path.{◌∙◌, ap, sym}
use Rattle.sheet_reader.proofs.bytes.task_at.Goals as goal

pub returns-then-links-ne0 : goal.returns-then-links-ne0
returns-then-links-ne0 c = sym (ap (verdict sheet_format task) (task-turn c.args.w.now _ _ c.requires.tasks_value.1 c.if-links-ne0.true))

pub returns-then-bytes-at-lt-TASK_SIZE : goal.returns-then-bytes-at-lt-TASK_SIZE
returns-then-bytes-at-lt-TASK_SIZE c = sym (ap (verdict sheet_format task) (task-cut c.args.w.now c.args.bytes.now _ c.args.at c.requires.tasks_value.1 c.if-links-ne0.false c.requires.tasks_value.2 c.if-bytes-at-lt-TASK_SIZE.true))

pub returns : goal.returns
returns c =
    told task c.task_fault.result
    ∙ sym (ap (verdict sheet_format task) (task-numbers c.args.w.now c.args.bytes.now _ _ c.args.at _ c.requires.tasks_value.0 c.requires.tasks_value.1 c.if-links-ne0.false c.if-bytes-at-lt-TASK_SIZE.false c.get16.ensures ∙ sym c.task_fault.ensures))
