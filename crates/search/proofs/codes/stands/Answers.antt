-- `stands` (src/codes.rt) keeps its contract.
use Prim.Native.Nat.{◌+◌, ◌-◌}
use native.Mathlib.Omega.{arith}
use mathlib.Core.Path.{◌≡◌, refl, sym, ◌∙◌}
use Rattle.search.proofs.Digits.{among-here, among-less, among_none}
use Rattle.search.proofs.codes.stands.Goals as goal

pub loop-init : goal.loop-init
loop-init c = let e : c.args.len - 0 ≡ c.args.len = omega arith in rw e refl

pub returns-then-t-c : goal.returns-then-t-c
returns-then-t-c c = sym (sym c.loop.invariant ∙ among-here _ _ _ (omega arith) (omega arith))

pub loop-preserved : goal.loop-preserved
loop-preserved c =
    let e : c.args.len - (c.loop.counter + 1) ≡ c.args.len - c.loop.counter - 1 = omega arith in
    rw e (sym (among-less _ _ _ (omega arith) (λ q. omega arith)) ∙ c.loop.invariant)

pub returns : goal.returns
returns c = sym (sym c.loop.invariant ∙ among_none _ _ _ (omega arith))
