-- `some_closed` (src/lib.rt) keeps its contract.
use Prim.Native.Nat.{ℕ}
use mathlib.Core.Path.{◌∙◌, ap, ap₂, sym}
use native.Mathlib.Omega.{arith}
use lib.Dec.{eqb}
use Rattle.folds.specs.Folds.{any, either}
use Rattle.folds.proofs.Loops.{any-one, any-zero}
use Rattle.placing.specs.Sets.{closed_in}
use Rattle.placing.proofs.some_closed.Goals as goal

pub loop-k-init : goal.loop-k-init
loop-k-init c = sym (any-zero _)

pub loop-k-preserved : goal.loop-k-preserved
unfolding closed_in
loop-k-preserved c = ap₂ either c.loop-k.invariant (ap (λ (i : ℕ). eqb i 0) c.word-x.ensures.0) ∙ sym (any-one _ _)

pub returns : goal.returns
returns c = c.loop-k.invariant ∙ ap (λ (j : ℕ). any j (closed_in c.args.kept.now)) (omega (arith, c.loop-k.auto.k-end, c.loop-k-test.false))
