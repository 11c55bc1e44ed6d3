-- `unwired` (src/bytes.rt) keeps its contract.
use Rattle.sheet.proofs.Judging.{unwired-in}
use borrow.Author.Tests.{eq-eqb, ne_eqb}
use mathlib.Core.Path.{◌∙◌, sym}
use Rattle.sheet_reader.proofs.bytes.unwired.Goals as goal

pub returns-then-cube : goal.returns-then-cube
returns-then-cube c = sym (unwired-in c.args.w.now _ c.args.tasks c.args.links c.cube.ensures c.requires.tasks_value.0 c.requires.tasks_value.1 ∙ rw c.if-cube.true)

pub returns-then-tasks-ne0 : goal.returns-then-tasks-ne0
returns-then-tasks-ne0 c = sym (unwired-in c.args.w.now _ c.args.tasks c.args.links c.cube.ensures c.requires.tasks_value.0 c.requires.tasks_value.1 ∙ rw (c.if-cube.false, ne_eqb c.args.tasks 0 c.if-tasks-ne0.true))

pub returns : goal.returns
returns c = sym (unwired-in c.args.w.now _ c.args.tasks c.args.links c.cube.ensures c.requires.tasks_value.0 c.requires.tasks_value.1 ∙ rw (c.if-cube.false, eq-eqb c.args.tasks 0 c.if-tasks-ne0.false))
