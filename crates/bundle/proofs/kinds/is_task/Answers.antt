-- `bundle::kinds::is_task` meets its contract.
use Rattle.bundle.specs.Kinds.{is_task}
use Rattle.std.proofs.Common.{arith}
use Rattle.std.proofs.lemmas.Bool.Decides.{nat_tests}
use Rattle.bundle.proofs.kinds.is_task.Goals as goal

pub returns-in-82 : goal.returns-in-82
unfolding is_task
returns-in-82 c = grind (arith, nat_tests)

pub returns-in_default : goal.returns-in_default
unfolding is_task
returns-in_default c = grind (arith, nat_tests)
