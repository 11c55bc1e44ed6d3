-- `link_at` (src/bytes.rt) keeps its contract.
use Rattle.commands.specs.Commands.{verdict}
use Rattle.sheet.proofs.Judging.{link-cut, link-numbers}
use Rattle.sheet.specs.Format.{link, sheet_format}
use Rattle.sheet_reader.proofs.Scans.{told}
use mathlib.Core.Path.{◌∙◌, ap, sym}
use Rattle.sheet_reader.proofs.bytes.link_at.Goals as goal

pub returns-then-bytes-at-lt-LINK_SIZE : goal.returns-then-bytes-at-lt-LINK_SIZE
returns-then-bytes-at-lt-LINK_SIZE c = sym (ap (verdict sheet_format link) (link-cut c.args.w.now c.args.bytes.now c.args.at c.requires.tasks_value.2 c.if-bytes-at-lt-LINK_SIZE.true))

pub returns : goal.returns
returns c =
    told link c.link_fault.result
    ∙ sym (ap (verdict sheet_format link) (link-numbers c.args.w.now c.args.bytes.now c.args.at _ _ c.if-bytes-at-lt-LINK_SIZE.false c.get8-source.ensures.0 c.get8-target.ensures.0 ∙ sym c.link_fault.ensures))
