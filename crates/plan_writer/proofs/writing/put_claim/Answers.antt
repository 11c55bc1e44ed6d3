-- `put_claim` (src/writing.rt) keeps its contract.
use native.Mathlib.Omega.{arith}
use lib.ListN.{length-set}
use mathlib.Core.Path.{refl}
use Rattle.plan_writer.proofs.Puts.{stored-number}
use Rattle.plan_writer.proofs.writing.put_claim.Goals as goal

pub put32-requires : goal.put32-requires
put32-requires c = simp length-set (omega arith)

pub shape_of-out : goal.shape_of-out
shape_of-out c = simp length-set at c.put32.auto.s

pub returns : goal.returns
returns c = let a = c.args in stored-number 4 a.out.now _ a.at 0x5A _ 0x5A a.claim (omega arith) refl refl c.put32.ensures
