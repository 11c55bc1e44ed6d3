-- `end_of` (src/lib.rt) keeps its contract.
use mathlib.Core.Path.{◌∙◌}
use Rattle.placing.proofs.Turn.end_of.Goals as goal

pub returns : goal.returns
returns c = (c.word.ensures.0 ∙ c.args.self.now.choosing.kept.caches.ends.ends c.args.k c.requires, c.word.ensures.1)
