-- `finish` (src/lib.rt) keeps its contract.
use mathlib.Core.Path.{◌∙◌, sym}
use native.Mathlib.Omega.{arith}
use Rattle.schedule.proofs.Rows.{finish-in}
use Rattle.sheet.proofs.Rows.{task-index}
use Rattle.schedule.proofs.finish.Goals as goal

pub overflow_add-t : goal.overflow_add-t
overflow_add-t c = omega (arith, task-index c.args.w.now c.args.t c.requires.loaded c.requires.t_bound)

pub word-requires : goal.word-requires
word-requires c = omega (arith, task-index c.args.w.now c.args.t c.requires.loaded c.requires.t_bound, c.requires.loaded.long)

pub returns : goal.returns
returns c = (c.word.ensures.0 ∙ sym (finish-in c.args.w.now c.args.t c.requires.t_bound), c.word.ensures.1)
