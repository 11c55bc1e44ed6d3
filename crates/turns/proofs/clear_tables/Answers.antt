-- `clear_tables` (src/lib.rt) keeps its contract.
use native.Mathlib.Omega.{arith}
use Rattle.turns.proofs.Emptying.{cleared-by}
use Rattle.turns.proofs.clear_tables.Goals as goal

pub returns : goal.returns
returns c =
    let n = c.tasks-n.ensures in
    cleared-by c.args.w.now _ _ _ _ _ c.requires.long (omega (arith, n.0, n.1)) (omega (arith, n.0)) (omega (arith, n.0)) (c.fill.ensures.after (λ y h. h)) (c.fill-2.ensures.after (λ y h. h))
