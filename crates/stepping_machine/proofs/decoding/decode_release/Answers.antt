-- `decode_release` (src/decoding.rt) keeps its contract.
use Prim.Native.Nat.{ℕ, ◌+◌}
use mathlib.Core.Logic.{inr}
use mathlib.Core.Path.{ap, refl}
use native.Mathlib.Omega.{arith}
use Rattle.stepping_machine.proofs.Loading.{byte_inside, coded-discard, coded-release, link-inside, number-there, pair_inside, task-inside}
use Rattle.stepping_machine.proofs.decoding.decode_release.Goals as goal

pub bounds-bundle-o : goal.bounds-bundle-o
bounds-bundle-o c = omega (arith, byte_inside _ _ _ _ _ c.requires.0 c.requires.1)

pub bounds-bundle-o-then-bundle-o-eq70 : goal.bounds-bundle-o-then-bundle-o-eq70
bounds-bundle-o-then-bundle-o-eq70 c = omega (arith, byte_inside _ _ _ _ _ c.requires.0 c.requires.1)

pub store_at-requires : goal.store_at-requires
store_at-requires c = omega (arith, c.from-t.ensures)

pub pair-store-requires : goal.pair-store-requires
pair-store-requires c = omega (arith, c.store_at.ensures, task-inside _ _ _ _ _ c.requires.0 c.requires.1 _ refl _ (inr c.if-bundle-o-eq70.true) c.from-t.ensures)

pub returns-then-bundle-o-eq70 : goal.returns-then-bundle-o-eq70
returns-then-bundle-o-eq70 c =
    let sheet = c.args.sheet.now in
    coded-release sheet _ _ _ _ _ _ _ refl c.if-bundle-o-eq70.true c.from-t.ensures (number-there sheet _ _ _ c.pair-store.ensures.0 c.store_at.ensures) refl refl refl refl

pub pair-l-requires : goal.pair-l-requires
pair-l-requires c = omega (arith, pair_inside _ _ _ _ _ c.requires.0 c.requires.1 _ refl (λ q. omega (arith, c.requires.2)) c.if-bundle-o-eq70.false)

pub cost_at-requires : goal.cost_at-requires
cost_at-requires c = omega (arith, c.pair-l.ensures.1)

pub pair-bytes-requires : goal.pair-bytes-requires
pair-bytes-requires c = omega (arith, c.cost_at.ensures, (link-inside _ _ _ _ _ c.requires.0 c.requires.1 _ refl (λ q. omega (arith, c.requires.2)) c.if-bundle-o-eq70.false _ c.pair-l.ensures.0).0)

pub returns-else-bundle-o-eq70 : goal.returns-else-bundle-o-eq70
returns-else-bundle-o-eq70 c =
    let sheet = c.args.sheet.now in
    coded-discard sheet _ _ _ _ _ _ _ refl (omega (arith, c.requires.2)) c.if-bundle-o-eq70.false c.pair-l.ensures.0
    (number-there sheet _ _ _ c.pair-bytes.ensures.0 (ap (λ (i : ℕ). i + 2) c.cost_at.ensures)) refl refl refl refl
