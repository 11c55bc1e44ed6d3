-- `work_of` (src/walking.rt) keeps its contract.
use mathlib.Core.Path.{◌∙◌}
use native.Mathlib.Omega.{arith}
use Rattle.search.proofs.Steps.{work-done}
use Rattle.search.proofs.walking.work_of.Goals as goal

pub returns : goal.returns
returns c = work-done _ _ _ _ _ c.requires.1 c.work_at.ensures (c.from.ensures ∙ c.get16.ensures) (omega arith)
