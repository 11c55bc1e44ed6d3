-- `reader::get16` meets its contract.
use Rattle.numbers.proofs.Laws.{number_lt}
use Rattle.reader.proofs.Widths.{whole-two}
use native.Mathlib.Omega.{arith}
use Rattle.reader.proofs.get16.Goals as goal

pub get-requires : goal.get-requires
get-requires c = whole-two c.requires

pub overflow_cast-result : goal.overflow_cast-result
overflow_cast-result c = omega (arith, c.get.ensures, number_lt 2 c.args.bytes.now c.args.at (λ k. omega (arith, c.type_inv.bytes k)))
