-- `put_release` (src/laying.rt) keeps its contract.
use native.Mathlib.Omega.{arith}
use Rattle.releasing.proofs.Things.{result-laid, message-laid}
use Rattle.releasing.proofs.laying.put_release.Goals as goal

pub returns-then-x-lt256 : goal.returns-then-x-lt256
returns-then-x-lt256 c = (result-laid _ c.if-x-lt256.true c.put.ensures c.put-then-x-lt256.ensures, omega arith)

pub returns-else-x-lt256 : goal.returns-else-x-lt256
returns-else-x-lt256 c = (
  message-laid _ c.if-x-lt256.false c.put-else-x-lt256.ensures c.put-else-x-lt256-2.ensures c.put-else-x-lt256-3.ensures,
  omega arith,
)
