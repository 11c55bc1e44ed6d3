-- `opened` (src/walking.rt) keeps its contract.
use native.Mathlib.Omega.{arith}
use Rattle.search.proofs.Digits.{code_fits}
use Rattle.search.proofs.Steps.{opened-done}
use Rattle.search.proofs.Digits.{opens-le}
use Rattle.search.proofs.walking.opened.Goals as goal

pub overflow_mul-result : goal.overflow_mul-result
overflow_mul-result c = omega (arith, code_fits c.args.b.tasks c.args.b.code c.requires.2.few c.requires.2.small)

pub overflow_add-result : goal.overflow_add-result
overflow_add-result c = omega (arith, code_fits c.args.b.tasks c.args.b.code c.requires.2.few c.requires.2.small)

pub overflow_add-result-2 : goal.overflow_add-result-2
overflow_add-result-2 c = omega (arith, code_fits c.args.b.tasks c.args.b.code c.requires.2.few c.requires.2.small, c.requires.4, c.requires.1.tasks)

pub overflow_add-result-3 : goal.overflow_add-result-3
overflow_add-result-3 c = omega (arith, c.requires.3)

pub overflow_add-result-4 : goal.overflow_add-result-4
overflow_add-result-4 c = omega (arith, c.requires.2.programmes, opens-le c.args.b.tasks c.args.b.code, c.requires.3)

pub returns : goal.returns
returns c = opened-done c.requires.2 c.requires.3 (omega (arith, c.requires.4, c.requires.1.tasks)) _ _ _ c.key.ensures c.store_of.ensures c.work_of.ensures
