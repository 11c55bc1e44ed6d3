-- `put_behind` (src/inserting.rt) keeps its contract. `g` is the loop.
use native.Mathlib.Omega.{arith}
use mathlib.Core.Path.{refl}
use Rattle.releasing.proofs.Emptying.{emptying-starts, emptying-small, emptying-more, emptying-less, emptying-ends}
use Rattle.releasing.proofs.inserting.put_behind.Goals as goal

pub loop-left-init : goal.loop-left-init
loop-left-init c = emptying-starts _ _ _ _ _ c.word-left.ensures.0

pub overflow_sub-x : goal.overflow_sub-x
overflow_sub-x c = omega (arith, (emptying-small c.loop-left.invariant c.requires.0).0)

pub put_if_due-at-requires : goal.put_if_due-at-requires
put_if_due-at-requires c =
    let p = c.requires in
    let s = emptying-small c.loop-left.invariant p.0 in
    (omega (arith, s.0, c.loop-left-test.true), omega (arith, s.1, p.1))

pub loop-left-smaller : goal.loop-left-smaller
loop-left-smaller c = emptying-less c.loop-left.invariant _ c.loop-left-test.true refl c.requires.0 _ c.word-left-in-loop-left.ensures.0

pub loop-left-preserved : goal.loop-left-preserved
loop-left-preserved c =
    let p = c.put_if_due-at.ensures in
    emptying-more c.loop-left.invariant _ c.loop-left-test.true refl _ _ _ p.0 p.1 c.word-left-in-loop-left.ensures.0

pub shape_of-out : goal.shape_of-out
shape_of-out c = c.loop-left.invariant.long

pub returns : goal.returns
returns c = emptying-ends c.loop-left.invariant (omega (arith, c.loop-left-test.false)) c.requires.0
