-- `raised` (src/ways.rt) keeps its contract.
use mathlib.Core.Path.{refl, ap, ◌∙◌}
use Prim.Native.Nat.{◌%◌}
use native.Mathlib.Omega.{arith}
use lib.ListN.{get_or}
use Rattle.stepping_machine.specs.Layout.{numbers}
use Rattle.stepping_machine.proofs.Raising.{raised-send, raised-else, product_small}
use Rattle.stepping_machine.proofs.ways.raised.Goals as goal

pub overflow_mul-result : goal.overflow_mul-result
overflow_mul-result c = let x = c.args.x in omega (arith, product_small (x % numbers) _ (omega arith) c.hops-hops.ensures.1)

pub overflow_add-result : goal.overflow_add-result
overflow_add-result c = omega (arith, product_small (c.args.x % numbers) _ (omega arith) c.hops-hops.ensures.1, c.requires.1)

pub returns-then-x-eq2 : goal.returns-then-x-eq2
returns-then-x-eq2 c =
    let target = c.byte-target.ensures.0 ∙ ap (λ i. get_or c.args.sheet.now i 0) c.target_at.ensures in
    raised-send _ c.args.w.now _ _ _ _ _ _ _ c.if-x-eq2.true target c.word-home.ensures.0 c.hops-hops.ensures.0 refl

pub returns-else-x-eq2 : goal.returns-else-x-eq2
returns-else-x-eq2 c = raised-else _ _ _ _ _ c.if-x-eq2.false
