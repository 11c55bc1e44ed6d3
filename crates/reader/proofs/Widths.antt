-- Laws of the three widths.
use Prim.Native.Nat.{ℕ, ◌+◌, ◌≤◌, ◌<◌}
use mathlib.Core.Path.{◌≡◌, refl}
use mathlib.Core.Logic.{⊎_elim, inl, inr}
use mathlib.Core.List.{List}
use native.Mathlib.Omega.{arith}
use lib.ListN.{length, get_or}
use Rattle.numbers.specs.Number.{number_at}
use Rattle.reader.specs.Whole.{Whole}

pub number-one : (b : List ℕ) (at : ℕ) → number_at 1 b at ≡ get_or b at 0
unfolding number_at
number-one b at = omega arith

pub is-four : {b : List ℕ} {at width : ℕ} → Whole b at width → (width ≡ 1 → ⊥) → (width ≡ 2 → ⊥) → width ≡ 4
is-four {width = width} h one two = ⊎_elim (λ (e : width ≡ 1). absurd (one e)) (⊎_elim (λ (e : width ≡ 2). absurd (two e)) (λ (e : width ≡ 4). e)) h.bits

pub whole-one : {b : List ℕ} {at : ℕ} → at < length b → Whole b at 1
whole-one h = record { bits = inl refl; room = omega arith }

pub whole-two : {b : List ℕ} {at : ℕ} → at + 2 ≤ length b → Whole b at 2
whole-two h = record { bits = inr (inl refl); room = h }

pub whole_four : {b : List ℕ} {at : ℕ} → at + 4 ≤ length b → Whole b at 4
whole_four h = record { bits = inr (inr refl); room = h }
