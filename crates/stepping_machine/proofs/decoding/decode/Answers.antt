-- `decode` (src/decoding.rt) keeps its contract.
use Prim.Native.Nat.{ℕ, ◌+◌, ◌*◌, ◌/◌}
use mathlib.Core.Logic.{inl}
use mathlib.Core.Path.{ap, refl}
use native.Mathlib.Omega.{arith}
use Rattle.stepping_machine.proofs.Loading.{byte_inside, coded-message, coded-run, link-inside, number-there, pair_inside, task-inside}
use Rattle.stepping_machine.proofs.decoding.decode.Goals as goal

pub bounds-bundle-o : goal.bounds-bundle-o
bounds-bundle-o c = omega (arith, byte_inside _ _ _ _ _ c.requires.0 c.requires.1)

pub bounds-bundle-o-then-c-eq82 : goal.bounds-bundle-o-then-c-eq82
bounds-bundle-o-then-c-eq82 c = omega (arith, byte_inside _ _ _ _ _ c.requires.0 c.requires.1)

pub work_at-requires : goal.work_at-requires
work_at-requires c = omega (arith, c.from-t.ensures)

pub pair-work-requires : goal.pair-work-requires
pair-work-requires c = omega (arith, c.work_at.ensures, task-inside _ _ _ _ _ c.requires.0 c.requires.1 _ refl _ (inl c.if-c-eq82.true) c.from-t.ensures)

pub store_at-requires : goal.store_at-requires
store_at-requires c = omega (arith, c.from-t.ensures)

pub pair-need-requires : goal.pair-need-requires
pair-need-requires c = omega (arith, c.store_at.ensures, task-inside _ _ _ _ _ c.requires.0 c.requires.1 _ refl _ (inl c.if-c-eq82.true) c.from-t.ensures)

pub returns-then-c-eq82 : goal.returns-then-c-eq82
returns-then-c-eq82 c =
    let sheet = c.args.sheet.now in
    coded-run sheet _ _ _ _ _ _ _ _ refl c.if-c-eq82.true c.from-t.ensures (number-there sheet _ _ _ c.pair-work.ensures.0 c.work_at.ensures)
    (number-there sheet _ _ _ c.pair-need.ensures.0 c.store_at.ensures) c.pair-need.ensures.1 refl refl refl refl

pub decode_release-requires : goal.decode_release-requires
decode_release-requires c = (c.requires.0, c.requires.1, c.if-c-lt80.true)

pub returns-then-c-lt80 : goal.returns-then-c-lt80
returns-then-c-lt80 c = c.decode_release.ensures

pub pair-l-requires : goal.pair-l-requires
pair-l-requires c = omega (arith, pair_inside _ _ _ _ _ c.requires.0 c.requires.1 _ refl c.if-c-eq82.false (λ q. omega (arith, c.if-c-lt80.false)))

pub cost_at-requires : goal.cost_at-requires
cost_at-requires c = omega (arith, c.pair-l.ensures.1)

pub pair-amount-requires : goal.pair-amount-requires
pair-amount-requires c =
    let x = link-inside _ _ _ _ _ c.requires.0 c.requires.1 _ refl c.if-c-eq82.false (λ q. omega (arith, c.if-c-lt80.false)) _ c.pair-l.ensures.0 in
    omega (arith, c.cost_at.ensures, x.0, x.1)

pub returns-else-c-lt80 : goal.returns-else-c-lt80
returns-else-c-lt80 c =
    let sheet = c.args.sheet.now in
    coded-message sheet _ _ _ _ _ _ _ _ _ c.from.ensures (λ q. c.if-c-eq82.false (omega (arith, c.from.ensures, q))) (omega (arith, c.from.ensures, c.if-c-lt80.false)) c.pair-l.ensures.0 refl
    (number-there sheet _ _ _ c.pair-amount.ensures.0 (ap (λ (i : ℕ). i + 2 * ((c.from.result + 172) / 256)) c.cost_at.ensures)) c.pair-amount.ensures.1 c.received.ensures refl refl refl refl
