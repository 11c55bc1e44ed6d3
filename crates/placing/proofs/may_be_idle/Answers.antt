-- `may_be_idle` (src/lib.rt) keeps its contract.
use Prim.Native.Nat.{ℕ}
use mathlib.Core.Path.{◌∙◌, ap, ap₂, sym}
use native.Mathlib.Omega.{arith}
use lib.Dec.{leb}
use Rattle.folds.specs.Folds.{any, both, either}
use Rattle.folds.proofs.Loops.{any-one, any-zero}
use Rattle.placing.specs.Ranks.{may_be_idle}
use Rattle.placing.proofs.may_be_idle.Goals as goal

pub loop-k-init : goal.loop-k-init
loop-k-init c = sym (any-zero _)

pub loop-k-preserved : goal.loop-k-preserved
unfolding may_be_idle
loop-k-preserved c =
    let e = c.word-e.ensures.0 in
    let p = c.word-p.ensures.0 in
    ap₂ either c.loop-k.invariant (ap₂ (λ (i j : ℕ). both (leb i c.args.a) (leb j c.args.d)) e p) ∙ sym (any-one _ _)

pub returns : goal.returns
returns c = c.loop-k.invariant ∙ ap (λ (j : ℕ). any j (may_be_idle c.args.kept.now c.args.a c.args.d)) (omega (arith, c.loop-k.auto.k-end, c.loop-k-test.false))
