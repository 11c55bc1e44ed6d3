-- `copy_runs` (src/releases.rt) keeps its contract.
use native.Mathlib.Omega.{arith}
use Rattle.admission.proofs.Keeping.{copy_start, copy_more}
use Rattle.admission.proofs.releases.copy_runs.Goals as goal

pub loop-t-init : goal.loop-t-init
loop-t-init c = (copy_start _, c.requires.0, c.requires.1)

pub word-x-requires : goal.word-x-requires
word-x-requires c = let i = c.loop-t.invariant in omega (arith, i.1, i.2, i.0.apart.long, c.loop-t-test.true)

pub loop-t-preserved : goal.loop-t-preserved
loop-t-preserved c =
    let i = c.loop-t.invariant in
    let t = c.loop-t-test.true in
    (copy_more _ _ i.0 (omega arith) i.2 c.word-x.ensures.0 c.word-x.ensures.1 c.put.ensures, i.1, i.2)

pub shape_of-w : goal.shape_of-w
shape_of-w c = c.loop-t.invariant.0.apart.long

pub returns : goal.returns
returns c =
    let i = c.loop-t.invariant in
    record { apart = i.0.apart; copied = λ t l. i.0.copied t (omega (arith, c.loop-t-test.false)) }
