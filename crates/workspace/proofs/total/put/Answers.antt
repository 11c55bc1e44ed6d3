-- `put` (src/lib.rt) keeps its contract.
use lib.Seq.{set_out}
use mathlib.Core.Path.{sym}
use Rattle.workspace.proofs.total.put.Goals as goal

pub returns-then-i-w : goal.returns-then-i-w
returns-then-i-w c = simp c.narrow.ensures

pub returns-else-i-w : goal.returns-else-i-w
returns-else-i-w c = sym (set_out c.args.w.now c.args.i _ c.if-i-w.false)
