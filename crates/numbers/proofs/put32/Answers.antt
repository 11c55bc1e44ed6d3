-- `put32` (src/lib.rt) keeps its contract.
use Rattle.std.proofs.Common.{arith}
use Rattle.numbers.proofs.Laws.{stored-halves}
use Rattle.numbers.proofs.put32.Goals as goal

pub returns : goal.returns
returns c = stored-halves c.args.s.now _ _ _ _ c.put16.ensures c.put16-2.ensures (omega arith)
