-- `put_pair` (src/unload.rt) keeps its contract.
use Rattle.numbers.proofs.Laws.{stored-two}
use lib.ListN.{length-set}
use native.Mathlib.Omega.{arith}
use Rattle.sheet_writer.proofs.unload.put_pair.Goals as goal

pub bounds-out-at-2 : goal.bounds-out-at-2
bounds-out-at-2 c = simp length-set (omega arith)

pub returns : goal.returns
returns c = stored-two c.args.out.now c.args.at c.args.x c.args.y c.requires.0
