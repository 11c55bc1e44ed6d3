-- `judge` (src/judging.rt) keeps its contract.
use mathlib.Core.Path.{refl}
use native.Mathlib.Omega.{arith}
use lib.ListN.{length-take}
use Rattle.search.proofs.Judges.{good-done, claim-done, refused-done}
use Rattle.search.proofs.judging.judge.Goals as goal

pub slice_bounds-judgement-end-2 : goal.slice_bounds-judgement-end-2
slice_bounds-judgement-end-2 c = omega (arith, length-take c.put_bundle-n.result c.put_bundle-n.new.buf, c.put_bundle-n.ensures.few)

pub returns-in-Ok : goal.returns-in-Ok
returns-in-Ok c = good-done _ _ _ _ _ _ _ _ _ _ c.put_bundle-n.ensures refl c.judgement.ensures c.in-Ok.is

pub returns-then-refusal-eq30 : goal.returns-then-refusal-eq30
returns-then-refusal-eq30 c = claim-done _ _ _ _ _ _ _ _ _ _ c.put_bundle-n.ensures refl c.judgement.ensures _ c.in-Err.is c.if-refusal-eq30.true

pub returns-else-refusal-eq30 : goal.returns-else-refusal-eq30
returns-else-refusal-eq30 c = refused-done _ _ _ _ _ _ _ _ _ _ c.put_bundle-n.ensures refl c.judgement.ensures _ c.in-Err.is c.if-refusal-eq30.false
