-- `round` (src/recording.rt) keeps its contract.
use native.Mathlib.Omega.{arith}
use Rattle.stepping_machine.proofs.Going.{round-ends, round-more, round-starts}
use Rattle.drift.proofs.Noting.{note-none, note-then, note-as}
use Rattle.drift.proofs.recording.round.Goals as goal

pub loop-k-init : goal.loop-k-init
loop-k-init c = (round-starts _, omega (arith, c.min-count.ensures), note-as (omega arith) (note-none _ _ _ _))

pub overflow_add-n : goal.overflow_add-n
overflow_add-n c = let i = c.loop-k.invariant in omega (arith, i.0.few, i.1, c.requires)

pub advance-m-requires : goal.advance-m-requires
advance-m-requires c = let i = c.loop-k.invariant in (omega (arith, c.loop-k-test.true, i.1), omega (arith, i.0.few, i.1, c.requires))

pub overflow_add-m : goal.overflow_add-m
overflow_add-m c = let i = c.loop-k.invariant in omega (arith, c.advance-m.ensures.0.few, i.0.few, i.1)

pub loop-k-preserved : goal.loop-k-preserved
loop-k-preserved c =
    let i = c.loop-k.invariant in
    let e = c.advance-m.ensures in
    (round-more i.0 e.0, i.1, note-then i.2 (note-as (omega arith) e.1))

pub shape_of-w : goal.shape_of-w
shape_of-w c = c.loop-k.invariant.2.long

pub shape_of-order : goal.shape_of-order
shape_of-order c = c.loop-k.invariant.2.order_long

pub shape_of-ends : goal.shape_of-ends
shape_of-ends c = c.loop-k.invariant.2.ends_long

pub returns : goal.returns
returns c = let i = c.loop-k.invariant in (round-ends i.0 (omega (arith, c.min-count.ensures, c.word.ensures.0, c.loop-k-test.false)), omega (arith, i.0.few, i.1), i.2)
