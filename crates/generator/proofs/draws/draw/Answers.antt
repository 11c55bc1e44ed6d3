-- `draw` (src/draws.rt) keeps its contract.
use Rattle.std.proofs.Common.{refl}
use Rattle.generator.proofs.draws.draw.Goals as goal

pub returns : goal.returns
returns c = refl
