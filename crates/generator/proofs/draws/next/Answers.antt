-- `next` (src/draws.rt) keeps its contract.
use Rattle.std.proofs.Common.{refl}
use Rattle.generator.proofs.Steps.{next-is}
use Rattle.generator.proofs.draws.next.Goals as goal

pub returns : goal.returns
returns c = next-is c.args.d _ _ c.shift.ensures refl
