-- `joined` (src/walking.rt) keeps its contract.
use native.Mathlib.Omega.{arith}
use Rattle.search.proofs.Digits.{code_fits, last-le}
use Rattle.search.proofs.Steps.{joined-done}
use Rattle.search.proofs.walking.joined.Goals as goal

pub overflow_mul-result : goal.overflow_mul-result
overflow_mul-result c = omega (arith, code_fits c.args.b.tasks c.args.b.code c.requires.2.few c.requires.2.small)

pub overflow_add-result : goal.overflow_add-result
overflow_add-result c = omega (arith, code_fits c.args.b.tasks c.args.b.code c.requires.2.few c.requires.2.small, c.requires.4, c.requires.1.tasks)

pub overflow_add-result-3 : goal.overflow_add-result-3
overflow_add-result-3 c = omega (arith, c.requires.2.own, last-le c.args.b.tasks c.args.b.code, c.requires.3)

pub returns : goal.returns
returns c = joined-done c.requires.2 c.requires.3 (omega (arith, c.requires.4, c.requires.1.tasks)) c.requires.5 _ _ c.store_of.ensures c.work_of.ensures
