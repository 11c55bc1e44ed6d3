-- `load_needs` (src/load.rt) keeps its contract.
use mathlib.Core.Path.{◌≡◌}
use native.Mathlib.Omega.{arith}
use Rattle.stepping_machine.proofs.Opening.{needs-more, needs-none}
use Rattle.stepping_machine.proofs.Loading.{number-there}
use Rattle.stepping_machine.proofs.load.load_needs.Goals as goal

pub loop-t-init : goal.loop-t-init
loop-t-init c = needs-none _ _ _

pub store_at-requires : goal.store_at-requires
store_at-requires c = omega (arith, c.loop-t-test.true, c.args.v.few_tasks)

pub pair-need-requires : goal.pair-need-requires
pair-need-requires c = omega (arith, c.store_at.ensures, c.loop-t-test.true, c.args.v.behind, c.requires.0)

pub overflow_add-t : goal.overflow_add-t
overflow_add-t c = omega (arith, c.loop-t-test.true, c.args.v.few_tasks)

pub put-requires : goal.put-requires
put-requires c = omega (arith, c.loop-t-test.true, c.args.v.few_tasks, c.requires.1, c.loop-t.invariant.long)

pub loop-t-preserved : goal.loop-t-preserved
loop-t-preserved c = needs-more _ _ _ _ _ _ _ (omega (arith, c.loop-t-test.true, c.args.v.few_tasks)) c.requires.1 c.loop-t.invariant (number-there c.args.sheet.now _ _ _ c.pair-need.ensures.0 c.store_at.ensures) c.pair-need.ensures.1 c.put.ensures

pub shape_of-w : goal.shape_of-w
shape_of-w c = c.loop-t.invariant.long

pub returns : goal.returns
returns c = let e : c.loop-t.t ≡ c.args.v.tasks = omega (arith, c.loop-t.auto.t-end, c.loop-t-test.false) in rw e at c.loop-t.invariant
