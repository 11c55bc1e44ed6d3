-- `high_key` (src/lib.rt) keeps its contract.
use mathlib.Core.Path.{refl}
use Rattle.placing.specs.Ranks.{high_key}
use Rattle.placing.proofs.high_key.Goals as goal

pub returns : goal.returns
unfolding high_key
returns c = refl
