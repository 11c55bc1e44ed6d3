-- `place` (src/lib.rt) keeps its contract.
use Prim.Native.Nat.{ℕ, ◌%◌}
use mathlib.Core.Path.{◌∙◌, ap, sym}
use native.Mathlib.Omega.{arith}
use Rattle.schedule.proofs.Rows.{place-in}
use Rattle.sheet.proofs.Rows.{task-index}
use Rattle.schedule.proofs.place.Goals as goal

pub overflow_add-t : goal.overflow_add-t
overflow_add-t c = omega (arith, task-index c.args.w.now c.args.t c.requires.loaded c.requires.t_bound)

pub word-requires : goal.word-requires
word-requires c = omega (arith, task-index c.args.w.now c.args.t c.requires.loaded c.requires.t_bound, c.requires.loaded.long)

pub returns : goal.returns
returns c = (
  ap (λ (x : ℕ). x % 65536) c.word.ensures.0 ∙ sym (place-in c.args.w.now c.args.t c.requires.t_bound),
  omega (arith, c.word.ensures.1),
)
