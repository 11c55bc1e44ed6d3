-- `put_pair` (src/writing.rt) keeps its contract.
use native.Mathlib.Omega.{arith}
use lib.ListN.{length-set}
use Rattle.numbers.proofs.Puts.{put_two}
use mathlib.Core.Path.{refl}
use Rattle.plan_writer.proofs.writing.put_pair.Goals as goal

pub bounds-out-at-2 : goal.bounds-out-at-2
bounds-out-at-2 c = simp length-set (omega arith)

pub returns : goal.returns
returns c = put_two c.args.out.now c.args.at c.args.command _ c.args.operand (omega arith) refl
