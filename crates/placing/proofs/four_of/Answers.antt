-- `four_of` (src/lib.rt) keeps its contract.
use native.Mathlib.Omega.{arith}
use Rattle.placing.proofs.Due.{last-four}
use Rattle.placing.proofs.four_of.Goals as goal

pub returns-in_default : goal.returns-in_default
returns-in_default c = last-four c.args.x c.args.j (λ e. omega arith) (λ e. omega arith) (λ e. omega arith)
