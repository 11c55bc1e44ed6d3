-- `raise` (src/ways.rt) keeps its contract.
use native.Mathlib.Omega.{arith}
use Rattle.stepping_machine.proofs.Raising.{raise-starts, raise-more, raise-ends}
use Rattle.stepping_machine.proofs.ways.raise.Goals as goal

pub loop-i-init : goal.loop-i-init
loop-i-init c = (raise-starts _ _ _ _ _, omega arith)

pub raised-requires : goal.raised-requires
raised-requires c =
    (omega (arith, c.requires.0, c.loop-i.invariant.0.long), c.word-x.ensures.1)

pub loop-i-preserved : goal.loop-i-preserved
loop-i-preserved c =
    let known = c.shared_slice_known-1 in
    let s = c.requires in
    let g = c.loop-i.invariant in
    let below = c.loop-i-test.true in (
      raise-more _ _ _ _ _ _ _ _ _ _ (λ j. omega (arith, known.given j)) s.1 c.loop-i.auto.i g.0 c.word-x.ensures.0 c.raised.ensures c.put.ensures,
      omega (arith, below),
    )

pub shape_of-w : goal.shape_of-w
shape_of-w c = c.loop-i.invariant.0.long

pub returns : goal.returns
returns c = let g = c.loop-i.invariant in raise-ends _ _ _ _ _ _ _ _ g.0 (omega (arith, c.loop-i-test.false)) g.1
