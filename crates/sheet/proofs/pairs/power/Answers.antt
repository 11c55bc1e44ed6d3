-- `power` (src/pairs.rt) keeps its contract.
use Prim.Native.Nat.{◌^◌, ◌<◌}
use native.Mathlib.Omega.{arith}
use lib.Pow.{pow-lt}
use Rattle.sheet.proofs.pairs.power.Goals as goal

pub returns : goal.returns
returns c = let l : 2 ^ c.args.j < 2 ^ 32 = pow-lt c.requires in omega arith
