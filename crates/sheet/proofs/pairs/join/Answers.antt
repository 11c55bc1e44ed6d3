-- `join` (src/pairs.rt) keeps its contract.
use Prim.Native.Nat.{◌+◌, ◌*◌, ◌/◌}
use native.Mathlib.Omega.{arith}
use Rattle.workspace.specs.Area.{pairs_at}
use Rattle.sheet.specs.Tables.{pair_words}
use Rattle.sheet.proofs.Fills.{pair-room}
use Rattle.sheet.proofs.pairs.join.Goals as goal

pub returns : goal.returns
unfolding pair_words
returns c = rw c.power.ensures

pub overflow_add-w : goal.overflow_add-w
overflow_add-w c = omega (arith, c.power.ensures, pair-room c.args.w.now c.args.a c.args.b c.requires.3 (omega (arith, c.slice_known-2-1.given (pairs_at + (8 * c.args.a + c.args.b / 32)))))
