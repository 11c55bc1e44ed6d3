-- `placed` (src/lib.rt) keeps its contract.
use mathlib.Core.Path.{◌∙◌, sym}
use Rattle.schedule.proofs.Rows.{order_long}
use Rattle.schedule.proofs.placed.Goals as goal

pub returns : goal.returns
returns c = (c.word.ensures.0 ∙ sym (order_long c.args.w.now), c.word.ensures.0, c.word.ensures.1)
