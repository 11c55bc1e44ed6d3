-- The readers of an atom, a product and a sum (src/lib.rt), which call each other, keep their contracts. A call either stays at the same number of parentheses that may
use Prim.Native.Nat.{◌+◌, ◌*◌, ◌-◌}
use lib.ListN.{length}
use Rattle.formulas.proofs.Products.{Multiplying}
use Rattle.formulas.proofs.Sums.{Summing}
use Rattle.formulas.proofs.+atom_product_sum.Given as goal

abbrev pub decreases-atom : goal.decreases-atom
decreases-atom l = 3 * l.room

abbrev pub decreases-product : goal.decreases-product
decreases-product l = 3 * l.room + 1

abbrev pub decreases-sum : goal.decreases-sum
decreases-sum l = 3 * l.room + 2

abbrev pub invariant-product-loop-part : goal.invariant-product-loop-part
invariant-product-loop-part l = Multiplying l.text l.letters l.from l.room l.at l.value

abbrev pub decreases-product-loop-part : goal.decreases-product-loop-part
decreases-product-loop-part l = length l.text - l.at

abbrev pub invariant-sum-loop-part : goal.invariant-sum-loop-part
invariant-sum-loop-part l = Summing l.text l.letters l.from l.room l.at l.value

abbrev pub decreases-sum-loop-part : goal.decreases-sum-loop-part
decreases-sum-loop-part l = length l.text - l.at
