-- `claim` (src/lib.rt) keeps its contract.
use mathlib.Core.Path.{sym}
use native.Mathlib.Omega.{arith}
use Rattle.planner.specs.Planner.{claim_of}
use Rattle.folds.proofs.Loops.{greatest-at, greatest-more, greatest-zero}
use Rattle.schedule.proofs.claim.Goals as goal

pub loop-t-init : goal.loop-t-init
loop-t-init c = (sym (greatest-zero _), omega arith)

pub loop-t-preserved : goal.loop-t-preserved
loop-t-preserved c = (greatest-more c.loop-t.t _ c.loop-t.invariant.0 c.finish.ensures.0 c.max-last.ensures, omega (arith, c.max-last.ensures, c.finish.ensures.1, c.loop-t.invariant.1))

pub returns : goal.returns
unfolding claim_of
returns c = (greatest-at _ _ _ c.loop-t.invariant.0 (omega (arith, c.loop-t.auto.t-end, c.loop-t-test.false, c.tasks-n.ensures.0)), c.loop-t.invariant.1)
