-- `work` (src/tables.rt) keeps its contract.
use Prim.Native.Nat.{ℕ, ◌%◌}
use mathlib.Core.Path.{ap}
use native.Mathlib.Omega.{arith}
use Rattle.sheet.proofs.Rows.{field-small, task-index, work_in}
use Rattle.sheet.proofs.tables.work.Goals as goal

pub overflow_add-t : goal.overflow_add-t
overflow_add-t c = omega (arith, task-index c.args.w.now c.args.t c.requires.loaded c.requires.t_bound)

pub word-requires : goal.word-requires
word-requires c = omega (arith, task-index c.args.w.now c.args.t c.requires.loaded c.requires.t_bound, c.requires.loaded.long)

pub returns : goal.returns
returns c = field-small (ap (λ (x : ℕ). x % 65536) c.word.ensures.0) (work_in c.args.w.now c.args.t c.requires.t_bound) (omega arith)
