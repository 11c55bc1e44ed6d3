-- `put_message` (src/writing.rt) keeps its contract.
use native.Mathlib.Omega.{arith}
use lib.ListN.{length-set}
use mathlib.Core.Path.{refl}
use Rattle.plan_writer.proofs.Puts.{stored-number}
use Rattle.plan_writer.proofs.writing.put_message.Goals as goal

pub put16-requires : goal.put16-requires
put16-requires c = simp length-set (omega arith)

pub shape_of-out : goal.shape_of-out
shape_of-out c = simp length-set at c.put16.auto.s

pub returns : goal.returns
returns c = let a = c.args in record { left = stored-number 2 a.out.now _ a.at _ _ _ a.l (omega arith) c.code.ensures refl c.put16.ensures; next = refl }
