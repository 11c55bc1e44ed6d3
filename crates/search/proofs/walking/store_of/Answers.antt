-- `store_of` (src/walking.rt) keeps its contract.
use mathlib.Core.Path.{◌∙◌}
use native.Mathlib.Omega.{arith}
use Rattle.search.proofs.Steps.{store-done}
use Rattle.search.proofs.walking.store_of.Goals as goal

pub returns : goal.returns
returns c = store-done _ _ _ _ _ c.requires.1 c.store_at.ensures (c.from.ensures ∙ c.get16.ensures) (omega arith)
