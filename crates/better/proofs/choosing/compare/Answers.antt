-- `compare` (src/choosing.rt) keeps its contract.
use mathlib.Core.Path.{◌∙◌}
use Rattle.better.proofs.Handing.{both-judged}
use Rattle.better.proofs.choosing.compare.Goals as goal

pub shape_of-w : goal.shape_of-w
shape_of-w c = c.judge-b.ensures.long ∙ c.judge-a.ensures.long

pub returns : goal.returns
returns c = both-judged _ c.judge-a.ensures c.judge-b.ensures c.ranked.ensures
