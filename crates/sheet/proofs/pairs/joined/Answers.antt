-- `joined` (src/pairs.rt) keeps its contract.
use mathlib.Core.Path.{refl}
use Rattle.sheet.specs.Tables.{pair_in, bit_at}
use Rattle.sheet.proofs.pairs.joined.Goals as goal

pub returns : goal.returns
unfolding pair_in bit_at
returns c = refl
