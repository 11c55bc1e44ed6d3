-- `hops` (src/hops.rt) keeps its contract.
use mathlib.Core.Path.{refl}
use native.Mathlib.Omega.{arith}
use lib.Bits.{xor_lt}
use lib.Count.{ones-le}
use Rattle.sheet.specs.Hops.{hops}
use Rattle.sheet.proofs.hops.hops.Goals as goal

pub returns : goal.returns
unfolding hops
returns c = (refl, ones-le 8 _ (xor_lt 8 c.args.j c.args.k (omega arith) (omega arith)))
