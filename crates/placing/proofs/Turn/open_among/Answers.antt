-- `open_among` (src/lib.rt) keeps its contract.
use Prim.Native.Nat.{◌<◌}
use mathlib.Core.Path.{◌∙◌, sym}
use native.Mathlib.Omega.{arith}
use Rattle.planner.specs.Planner.{another}
use Rattle.placing.proofs.Ties.{ties-none, ties-next, ties-end}
use Rattle.placing.proofs.Turn.open_among.Goals as goal

pub loop-k-init : goal.loop-k-init
loop-k-init c = ties-none _ _

pub may_open_on-requires : goal.may_open_on-requires
may_open_on-requires c = omega (arith, c.loop-k-test.true, c.processors-n.ensures.1)

pub offset_bounds-self-k : goal.offset_bounds-self-k
offset_bounds-self-k c = omega (arith, c.loop-k-test.true, c.processors-n.ensures.1)

pub bounds-self-k : goal.bounds-self-k
bounds-self-k c = omega (arith, c.loop-k-test.true, c.processors-n.ensures.1)

pub tie-tied-requires : goal.tie-tied-requires
tie-tied-requires c = omega (arith, c.loop-k-test.true, c.processors-n.ensures.1)

pub loop-k-preserved : goal.loop-k-preserved
loop-k-preserved c =
    let loop = c.loop-k in
    let below : loop.k < 16 = omega (arith, c.loop-k-test.true, c.processors-n.ensures.1) in
    ties-next loop.k _ _ loop.tied _ _ _ loop.invariant (sym c.may_open_on.ensures) (sym (c.args.self.now.started.on loop.k below)) c.tie-tied.ensures

pub returns : goal.returns
unfolding another
returns c =
    let n = c.processors-n.ensures in
    let loop = c.loop-k in
    (c.lowest.ensures.0 ∙ ties-end loop.invariant (omega (arith, loop.auto.k-end, c.loop-k-test.false, n.0)) (omega (arith, n.0, n.1)), c.lowest.ensures.1)
