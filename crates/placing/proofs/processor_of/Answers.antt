-- `processor_of` (src/lib.rt) keeps its contract.
use mathlib.Core.Path.{sym}
use native.Mathlib.Omega.{arith}
use Rattle.readiness.proofs.Leading.{index-more}
use Rattle.placing.proofs.processor_of.Goals as goal

pub returns : goal.returns
returns c = (sym (index-more 16 _ (omega (arith, c.if-key-eq0.false))), omega arith)
