-- `greatest_of` (src/lib.rt) keeps its contract.
use Prim.Native.Nat.{max}
use mathlib.Core.Path.{◌≡◌, ◌∙◌, ap₂, refl, sym}
use native.Mathlib.Omega.{arith}
use Rattle.folds.proofs.Loops.{greatest-at, greatest-more, greatest-zero}
use Rattle.readiness.specs.Keys.{key_by}
use Rattle.readiness.proofs.Blocks.{four_quarters}
use Rattle.readiness.proofs.keys.greatest_of.Goals as goal

pub loop-i-init : goal.loop-i-init
loop-i-init c = (sym (greatest-zero _), sym (greatest-zero _), sym (greatest-zero _), sym (greatest-zero _))

pub loop-i-preserved : goal.loop-i-preserved
unfolding key_by
loop-i-preserved c =
    let i = c.loop-i.invariant in (
      greatest-more _ _ i.0 refl c.max-a.ensures,
      greatest-more _ _ i.1 refl c.max-b.ensures,
      greatest-more _ _ i.2 refl c.max-c.ensures,
      greatest-more _ _ i.3 refl c.max-d.ensures,
    )

pub returns : goal.returns
returns c =
    let i = c.loop-i.invariant in
    let e : c.loop-i.i ≡ 4 = omega (arith, c.loop-i.auto.i-end, c.loop-i-test.false) in
    c.max-3.ensures
    ∙ ap₂ max (c.max.ensures ∙ ap₂ max (greatest-at _ _ 4 i.0 e) (greatest-at _ _ 4 i.1 e)) (c.max-2.ensures ∙ ap₂ max (greatest-at _ _ 4 i.2 e) (greatest-at _ _ 4 i.3 e))
    ∙ four_quarters c.args.q.now c.args.at
