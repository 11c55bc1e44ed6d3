-- `are_outside` (src/loads.rt) keeps its contract.
use Rattle.std.proofs.Common.{arith}
use Rattle.std.proofs.lemmas.Bool.Decides.{nat_tests}
use Rattle.generator.specs.Load.{outside}
use Rattle.generator.proofs.loads.are_outside.Goals as goal

pub returns-then-processors-lt1 : goal.returns-then-processors-lt1
unfolding outside
returns-then-processors-lt1 c = grind (arith, nat_tests)

pub returns-else-processors-lt1 : goal.returns-else-processors-lt1
unfolding outside
returns-else-processors-lt1 c = grind (arith, nat_tests)
