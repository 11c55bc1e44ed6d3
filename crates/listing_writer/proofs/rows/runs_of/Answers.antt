-- `runs_of` (src/rows.rt) keeps its contract.
use Prim.Native.Nat.{ℕ}
use mathlib.Core.Path.{refl}
use native.Mathlib.Omega.{arith}
use Rattle.folds.proofs.Lists.{get_d_replicate}
use Rattle.listing_writer.proofs.Running.{marks-none, marks-more, marks-end}
use Rattle.listing_writer.proofs.rows.runs_of.Goals as goal

pub loop-t-init : goal.loop-t-init
loop-t-init c = marks-none _ _ refl (λ k l. get_d_replicate {A = ℕ} 16 k 0)

pub place-k-requires : goal.place-k-requires
place-k-requires c = record { loaded = c.requires.loaded; t_bound = omega (arith, c.loop-t-test.true, c.tasks-n.ensures.0) }

pub offset_bounds-r-k : goal.offset_bounds-r-k
offset_bounds-r-k c = omega (arith, c.requires.standing.places c.loop-t.t (omega (arith, c.loop-t-test.true, c.tasks-n.ensures.0)), c.place-k.ensures.0)

pub bounds-r-k : goal.bounds-r-k
bounds-r-k c = omega (arith, c.requires.standing.places c.loop-t.t (omega (arith, c.loop-t-test.true, c.tasks-n.ensures.0)), c.place-k.ensures.0)

pub loop-t-preserved : goal.loop-t-preserved
loop-t-preserved c =
    let loop = c.loop-t in
    let below = c.requires.standing.places loop.t (omega (arith, c.loop-t-test.true, c.tasks-n.ensures.0)) in
    marks-more loop.invariant c.place-k.ensures.0 (omega (arith, below, c.place-k.ensures.0))

pub returns : goal.returns
returns c = marks-end c.loop-t.invariant (omega (arith, c.loop-t.auto.t-end, c.loop-t-test.false, c.tasks-n.ensures.0))
