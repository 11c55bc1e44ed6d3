-- `get16` (src/lib.rt) keeps its contract.
use Rattle.std.proofs.Common.{arith, add-one}
use Rattle.numbers.specs.Number.{number_at}
use Rattle.numbers.proofs.get16.Goals as goal

pub returns : goal.returns
unfolding number_at
returns c = omega (arith, c.from.ensures, simp add-one at c.from-2.ensures)
