-- `add_link` (src/bytes.rt) keeps its contract.
use Rattle.sheet.proofs.Fills.{added-by}
use Rattle.sheet_reader.specs.Scanning.{added_words}
use Rattle.sheet.specs.Tables.{pair_in}
use mathlib.Core.Path.{◌∙◌, ap₂}
use Rattle.sheet_reader.proofs.bytes.add_link.Goals as goal

pub join-requires : goal.join-requires
join-requires c = (c.requires.link_size_in_bounds.1, c.get8-source.ensures.1, c.get8-target.ensures.1, ap₂ (pair_in c.args.w.now) c.get8-source.ensures.0 c.get8-target.ensures.0 ∙ c.requires.at_value)

pub returns : goal.returns
unfolding added_words
returns c = c.put_link.ensures ∙ added-by c.args.w.now c.args.links _ c.join.ensures c.get8-source.ensures.0 c.get8-target.ensures.0 c.get16-cost.ensures c.get16-size.ensures
