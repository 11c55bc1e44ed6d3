-- `cube_at` (src/bytes.rt) keeps its contract.
use Rattle.commands.specs.Commands.{verdict}
use Rattle.sheet.proofs.Judging.{wire-clear, wire-turn}
use Rattle.sheet.specs.Format.{sheet_format, wire}
use Rattle.sheet.specs.Tables.{sheet_in}
use mathlib.Core.Path.{◌∙◌, ap, sym}
use Rattle.sheet_reader.proofs.bytes.cube_at.Goals as goal

pub unwired-requires : goal.unwired-requires
unwired-requires c = record { loaded = c.requires.loaded; tasks_value = c.requires.tasks_value }

pub returns-then-unwired : goal.returns-then-unwired
returns-then-unwired c = sym (ap (verdict sheet_format wire) (wire-clear (sheet_in c.args.w.now) _ (sym c.unwired.ensures ∙ c.if-unwired.true)))

pub returns : goal.returns
returns c = sym (ap (verdict sheet_format wire) (wire-turn (sheet_in c.args.w.now) _ (sym c.unwired.ensures ∙ c.if-unwired.false)))
