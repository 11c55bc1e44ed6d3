-- `number` (src/operands.rt) keeps its contract: its loops.
use Prim.Native.Nat.{◌-◌}
use lib.ListN.{length}
use Rattle.formulas.proofs.Counts.{Counting}
use Rattle.formulas.proofs.operands.number.Given as goal

abbrev pub invariant-loop-value : goal.invariant-loop-value
invariant-loop-value l = Counting l.text l.from l.at l.value

abbrev pub decreases-loop-value : goal.decreases-loop-value
decreases-loop-value l = length l.text - l.at
