-- `arrival_of` (src/lib.rt) keeps its contract.
use mathlib.Core.Path.{◌∙◌}
use Rattle.readiness.proofs.Counts.{arrival-kept}
use Rattle.readiness.proofs.arrival_of.Goals as goal

pub returns : goal.returns
returns c = (c.word.ensures.0 ∙ arrival-kept c.requires, c.word.ensures.1)
