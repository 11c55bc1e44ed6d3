-- `runners` (src/standings.rt) keeps its contract.
use Rattle.folds.proofs.Tests.{bit_le}
use native.Mathlib.Omega.{arith}
use Rattle.better.proofs.Running.{counted_none, counted-more, counted-all}
use Rattle.better.proofs.standings.runners.Goals as goal

pub loop-k-init : goal.loop-k-init
loop-k-init c = counted_none _

pub runs_task-requires : goal.runs_task-requires
runs_task-requires c = omega (arith, c.word-count.ensures.1, c.loop-k-test.true)

pub overflow_add-n : goal.overflow_add-n
overflow_add-n c = omega (arith, c.word-count.ensures.1, c.loop-k.invariant.few, bit_le c.runs_task.result, c.counted-n.ensures, c.loop-k-test.true)

pub loop-k-preserved : goal.loop-k-preserved
loop-k-preserved c = counted-more _ c.loop-k.invariant c.runs_task.ensures c.counted-n.ensures

pub returns : goal.returns
returns c = counted-all c.loop-k.invariant (omega (arith, c.word-count.ensures.0, c.loop-k-test.false, c.loop-k.auto.k-end))
