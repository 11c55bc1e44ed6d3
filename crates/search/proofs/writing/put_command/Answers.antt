-- `put_command` (src/writing.rt) keeps its contract.
use native.Mathlib.Omega.{arith}
use Rattle.search.proofs.Fronts.{command-done}
use Rattle.search.proofs.writing.put_command.Goals as goal

pub returns : goal.returns
returns c = command-done _ _ _ 2 _ _ _ c.put16.ensures (omega arith) c.requires.0
