-- `links` (src/tables.rt) keeps its contract.
use Rattle.sheet.proofs.Rows.{links-in, field-most}
use Rattle.sheet.proofs.tables.links.Goals as goal

pub returns : goal.returns
returns c = field-most c.word.ensures.0 (links-in c.args.w.now) c.requires.links
