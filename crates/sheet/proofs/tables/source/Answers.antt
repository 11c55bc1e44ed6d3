-- `source` (src/tables.rt) keeps its contract.
use Prim.Native.Nat.{ℕ, ◌%◌}
use mathlib.Core.Path.{ap}
use native.Mathlib.Omega.{arith}
use Rattle.sheet.proofs.Rows.{field_below, link-below, link-index, source_in, tasks-in}
use Rattle.sheet.proofs.tables.source.Goals as goal

pub overflow_add-l : goal.overflow_add-l
overflow_add-l c = omega (arith, link-index c.args.w.now c.args.l c.requires.loaded c.requires.l_bound)

pub word-requires : goal.word-requires
word-requires c = omega (arith, link-index c.args.w.now c.args.l c.requires.loaded c.requires.l_bound, c.requires.loaded.long)

pub returns : goal.returns
returns c = field_below (ap (λ (x : ℕ). x % 256) c.word.ensures.0) (source_in c.args.w.now c.args.l c.requires.l_bound) (c.requires.loaded.source c.args.l (link-below c.args.w.now c.args.l c.requires.l_bound)) (tasks-in c.args.w.now)
