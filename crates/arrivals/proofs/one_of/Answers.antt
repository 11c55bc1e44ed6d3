-- `one_of` (src/lib.rt) keeps its contract.
use Prim.Native.Nat.{◌%◌}
use native.Mathlib.Omega.{arith}
use Rattle.arrivals.proofs.Fours.{four-unit}
use Rattle.arrivals.proofs.one_of.Goals as goal

pub returns : goal.returns
returns c = four-unit (c.args.k % 4) (omega arith)
