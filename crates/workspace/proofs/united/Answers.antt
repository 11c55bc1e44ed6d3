-- `united` (src/lib.rt) keeps its contract.
use native.Mathlib.Omega.{arith}
use Rattle.workspace.proofs.Clearing.{united-none, united-more}
use Rattle.workspace.proofs.united.Goals as goal

pub loop-i-init : goal.loop-i-init
loop-i-init c = (omega arith, omega arith, united-none _ _ _)

pub loop-i-preserved : goal.loop-i-preserved
loop-i-preserved c = (omega arith, omega arith, united-more c.loop-i.invariant.2)

pub returns : goal.returns
returns c = record { most = λ j l m. c.loop-i.invariant.2.most j l (omega arith) }
