-- `bundle::kinds::is_message` meets its contract.
use Rattle.bundle.specs.Kinds.{is_message}
use Rattle.std.proofs.Common.{arith}
use Rattle.std.proofs.lemmas.Bool.Decides.{nat_tests}
use Rattle.bundle.proofs.kinds.is_message.Goals as goal

pub returns-in-83 : goal.returns-in-83
unfolding is_message
returns-in-83 c = grind (arith, nat_tests)

pub returns-in_default : goal.returns-in_default
unfolding is_message
returns-in_default c = grind (arith, nat_tests)
