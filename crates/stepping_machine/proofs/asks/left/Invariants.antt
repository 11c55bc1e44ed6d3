-- `left` (src/asks.rt) keeps its contract: its loops.
use Prim.Native.Nat.{◌*◌, ◌≤◌}
use mathlib.Core.Path.{◌≡◌}
use Rattle.folds.specs.Folds.{sum}
use Rattle.stepping_machine.proofs.Told.{left_in}
use Rattle.stepping_machine.proofs.asks.left.Given as goal

abbrev pub invariant-loop-k : goal.invariant-loop-k
invariant-loop-k l = (l.n ≡ sum l.k (left_in l.w)) × (l.n ≤ 4294967296 * l.k)
