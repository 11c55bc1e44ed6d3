-- `turn` (src/lib.rt) keeps its contract.
use Prim.Native.Nat.{ℕ, ◌/◌}
use mathlib.Core.Path.{◌∙◌, ap, sym}
use native.Mathlib.Omega.{arith}
use Rattle.schedule.proofs.Rows.{order-in}
use Rattle.schedule.proofs.turn.Goals as goal

pub returns : goal.returns
returns c = (
  ap (λ (x : ℕ). x / 65536) c.word.ensures.0 ∙ sym (order-in c.args.w.now c.args.i c.requires.i_bound.1),
  omega (arith, c.word.ensures.1),
)
