-- `unpacking_at` (src/bytes.rt) keeps its contract.
use Rattle.commands.specs.Commands.{verdict}
use Rattle.sheet.proofs.Judging.{unpack-again, unpack-clear, unpack-cut, unpack-turn, unpack-zero}
use Rattle.sheet.specs.Format.{sheet_format, unpack}
use Rattle.sheet.specs.Tables.{sheet_in}
use mathlib.Core.Path.{◌∙◌, ap, sym}
use Rattle.sheet_reader.proofs.bytes.unpacking_at.Goals as goal

pub returns-then-unpacking-ne0 : goal.returns-then-unpacking-ne0
returns-then-unpacking-ne0 c = sym (ap (verdict sheet_format unpack) (unpack-again (sheet_in c.args.w.now) _ (λ z. c.if-unpacking-ne0.true (c.unpacking.ensures.0 ∙ z))))

pub returns-then-not-unwired : goal.returns-then-not-unwired
returns-then-not-unwired c = sym (ap (verdict sheet_format unpack) (unpack-turn (sheet_in c.args.w.now) (sym c.unpacking.ensures.0 ∙ c.if-unpacking-ne0.false) _ (sym c.unwired.ensures ∙ c.if-not-unwired.true)))

pub returns-then-bytes-at-lt-UNPACKING_SIZE : goal.returns-then-bytes-at-lt-UNPACKING_SIZE
returns-then-bytes-at-lt-UNPACKING_SIZE c = sym (ap (verdict sheet_format unpack) (unpack-cut (sheet_in c.args.w.now) (sym c.unpacking.ensures.0 ∙ c.if-unpacking-ne0.false) c.args.bytes.now c.args.at (sym c.unwired.ensures ∙ c.if-not-unwired.false) c.requires.tasks_value.2 c.if-bytes-at-lt-UNPACKING_SIZE.true))

pub returns-then-get16-eq0 : goal.returns-then-get16-eq0
returns-then-get16-eq0 c = sym (ap (verdict sheet_format unpack) (unpack-zero (sheet_in c.args.w.now) (sym c.unpacking.ensures.0 ∙ c.if-unpacking-ne0.false) c.args.bytes.now c.args.at (sym c.unwired.ensures ∙ c.if-not-unwired.false) _ c.if-bytes-at-lt-UNPACKING_SIZE.false c.get16.ensures c.if-get16-eq0.true))

pub returns : goal.returns
returns c = sym (ap (verdict sheet_format unpack) (unpack-clear (sheet_in c.args.w.now) (sym c.unpacking.ensures.0 ∙ c.if-unpacking-ne0.false) c.args.bytes.now c.args.at (sym c.unwired.ensures ∙ c.if-not-unwired.false) _ c.if-bytes-at-lt-UNPACKING_SIZE.false c.get16.ensures c.if-get16-eq0.false))
