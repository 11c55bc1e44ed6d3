-- `task_of` (src/lib.rt) keeps its contract.
use mathlib.Core.Path.{sym}
use native.Mathlib.Omega.{arith}
use Rattle.readiness.proofs.Leading.{index-more}
use Rattle.readiness.proofs.task_of.Goals as goal

pub returns : goal.returns
returns c = sym (index-more 256 _ (omega (arith, c.if-key-eq0.false)))
