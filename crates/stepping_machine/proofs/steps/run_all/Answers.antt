-- `run_all` (src/steps.rt) keeps its contract.
use native.Mathlib.Omega.{arith}
use Rattle.folds.proofs.Tests.{bit_le}
use Rattle.stepping_machine.specs.Represents.{Represents}
use Rattle.machine.proofs.Kept.{run-all, run_more, run_none}
use Rattle.stepping_machine.proofs.steps.run_all.Goals as goal

pub loop-choice-init : goal.loop-choice-init
loop-choice-init c = (run_none Represents c.args.choices.now _, omega arith)

pub overflow_add-n : goal.overflow_add-n
overflow_add-n c = omega (arith, c.counted-n.ensures, bit_le c.step.result)

pub loop-choice-preserved : goal.loop-choice-preserved
loop-choice-preserved c = (run_more Represents c.args.choices.now _ _ _ _ c.loop-choice.invariant.0 c.loop-choice-test.true c.from.ensures c.step.ensures.steps c.counted-n.ensures, omega (arith, c.counted-n.ensures, bit_le c.step.result))

pub shape_of-w : goal.shape_of-w
shape_of-w c = c.loop-choice.invariant.0.long

pub returns : goal.returns
returns c = run-all Represents c.args.choices.now _ c.loop-choice.invariant.0 c.loop-choice-test.false
