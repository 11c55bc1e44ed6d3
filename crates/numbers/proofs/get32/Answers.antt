-- `get32` (src/lib.rt) keeps its contract.
use Rattle.std.proofs.Common.{arith}
use native.Mathlib.Numerals.{add-two}
use Rattle.numbers.specs.Number.{number_at}
use Rattle.numbers.proofs.get32.Goals as goal

pub returns : goal.returns
unfolding number_at
returns c =
    let high = simp add-two at c.get16-2.ensures in
    omega (arith, high, c.get16.ensures, c.from.ensures, c.from-2.ensures)
