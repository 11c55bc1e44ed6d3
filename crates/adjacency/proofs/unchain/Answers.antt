-- `unchain` (src/lib.rt) keeps its contract.
use mathlib.Core.Path.{◌∙◌, ap}
use native.Mathlib.Omega.{arith}
use Prim.Native.Nat.{◌+◌, ◌<◌}
use lib.ListN.{length}
use Rattle.workspace.specs.Area.{heads_at}
use Rattle.adjacency.specs.Chains.{rest}
use Rattle.adjacency.proofs.Building.{chain-none, headed-more, headed-none, rechained-none, rechained-set}
use Rattle.adjacency.proofs.unchain.Goals as goal

pub loop-t-init : goal.loop-t-init
loop-t-init c = (rechained-none _ _, headed-none _ _ _)

pub word-x-requires : goal.word-x-requires
word-x-requires c = omega (arith, c.loop-t.invariant.0.only.long, c.requires.long, c.tasks-t-end.ensures)

pub with_half-requires : goal.with_half-requires
with_half-requires c = omega (arith, c.links-m.ensures)

pub bounds-w-t : goal.bounds-w-t
bounds-w-t c = omega (arith, c.loop-t.invariant.0.only.long, c.requires.long, c.tasks-t-end.ensures)

pub loop-t-preserved : goal.loop-t-preserved
loop-t-preserved c =
    let n = c.tasks-t-end.ensures in
    let v = c.loop-t.invariant in
    let h = c.with_half.ensures in
    let l : heads_at + c.loop-t.t < length c.loop-t.w = omega (arith, v.0.only.long, c.requires.long, n) in (
      rechained-set _ _ (omega arith) (omega (arith, n)) l ((h.1 ∙ ap (rest c.args.e) c.word-x.ensures.0)) v.0,
      headed-more _ (h.0) l v.1,
    )

pub shape_of-w : goal.shape_of-w
shape_of-w c = c.loop-t.invariant.0.only.long

pub returns : goal.returns
returns c = (c.loop-t.invariant.0, chain-none c.links-m.ensures.0 (omega (arith, c.loop-t-test.false, c.tasks-t-end.ensures.0)) c.loop-t.invariant.1)
