-- `put` (src/recording.rt) keeps its contract.
use native.Mathlib.Omega.{arith}
use mathlib.Core.Path.{sym}
use lib.Seq.{set_out}
use Rattle.drift.proofs.recording.put.Goals as goal

pub returns-else-i-order : goal.returns-else-i-order
returns-else-i-order c = sym (set_out _ _ _ (omega (arith, c.if-i-order.false)))
