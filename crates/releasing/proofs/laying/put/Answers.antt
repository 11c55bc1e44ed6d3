-- `put` (src/laying.rt) keeps its contract.
use lib.Seq.{set_out}
use mathlib.Core.Path.{sym}
use Rattle.releasing.proofs.laying.put.Goals as goal

pub returns-else-at-out : goal.returns-else-at-out
returns-else-at-out c = sym (set_out c.args.out.now c.args.at _ c.if-at-out.false)
