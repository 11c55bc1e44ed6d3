-- The reader of a number.
use Prim.Native.Nat.{ℕ, ◌+◌, ◌*◌, ◌-◌, ◌^◌, ◌≤◌, ◌<◌}
use native.Mathlib.Omega.{arith}
use native.Mathlib.Decide.{ℕ_discrete}
use native.Mathlib.Nat.{mul_comm}
use mathlib.Core.Path.{◌≡◌, refl, sym, ap, ◌∙◌}
use mathlib.Core.Bool.{true, false}
use mathlib.Core.List.{List, [], ◌∷◌, ◌++◌, append_assoc}
use lib.ListN.{length, get_or, drop, length-append}
use borrow.Author.Tests.{le-ltb}
use Rattle.formulas.specs.Grammar.{number, Digits, first_digit, most_digits}
use Rattle.formulas.specs.Scanning.{want, scan}
use Rattle.formulas.specs.Parts.{NumberIs, part, digit_at}
use Rattle.formulas.specs.Values.{capped, decimal}
use Rattle.formulas.proofs.Limits.{decimal-more, ten-more, ten-most}
use Rattle.formulas.proofs.Scans.{first-scans}
use Rattle.formulas.proofs.Sounds.{digits_more}
use Rattle.formulas.proofs.Steps.{at_byte}
use Rattle.formulas.proofs.Bytes.{true-not-false, is_digit_lem, digit-range, digit-true, digit-false}

pub record Counting (b : List ℕ) (from at v : ℕ) : Type 0 where
  pub done : List ℕ
  pub split : drop from b ≡ done ++ drop at b
  pub digits : Digits done
  pub later : from ≤ at
  pub inside : at ≤ length b
  pub few : at - from ≤ most_digits
  pub long : length done ≡ at - from
  pub its : v ≡ decimal 0 done
  pub small : v < 10 ^ (at - from)

pub counting-none : (b : List ℕ) (from : ℕ) → digit_at b from from ≡ true → Counting b from from 0
unfolding decimal
counting-none b from e =
    let h = (digit-true b from from e).0 in
    let z : from - from ≡ 0 = omega arith in
    record { done = []; split = refl; digits = tt; later = omega arith; inside = omega arith; few = omega arith; long = sym z; its = refl; small = rw z (omega arith) }

pub bounded : {b : List ℕ} {from at v : ℕ} → Counting b from at v → v < 10000000000
bounded {b} {from} {at} i = omega (arith, i.small, ten-most (at - from) i.few)

pub counting_more : {b : List ℕ} {from at v : ℕ} → Counting b from at v → digit_at b from at ≡ true →
    Counting b from (at + 1) (v * 10 + (get_or b at 0 - first_digit))
counting_more {b} {from} {at} {v} i t =
    let d = digit-true b from at t in
    let h = d.0 in
    let l = d.1 in
    let e = d.2 in
    let m = digit-range (get_or b at 0) e in
    let q : at + 1 - from ≡ at - from + 1 = omega (arith, i.later) in
    let t : v * 10 ≡ 10 * v = mul_comm v 10 in
    record {
      done = i.done ++ (get_or b at 0 ∷ []);
      split = i.split ∙ ap (λ (x : List ℕ). i.done ++ x) (at_byte b at h) ∙ sym (append_assoc i.done (get_or b at 0 ∷ []) (drop (at + 1) b));
      digits = digits_more i.done (get_or b at 0) i.digits (is_digit_lem (get_or b at 0) e);
      later = omega (arith, i.later);
      inside = omega arith;
      few = omega (arith, i.later);
      long = length-append i.done (get_or b at 0 ∷ []) ∙ omega (arith, i.long, q);
      its = ap (λ (x : ℕ). x + (get_or b at 0 - first_digit)) (t ∙ ap (λ (x : ℕ). 10 * x) i.its) ∙ sym (decimal-more i.done 0 (get_or b at 0));
      small = rw (q, t) (ten-more (at - from) v (get_or b at 0 - first_digit) i.small (omega arith));
    }

-- a number that begins with a digit has one
begun : (b : List ℕ) (from at : ℕ) → from ≤ at → digit_at b from from ≡ true → digit_at b from at ≡ false → from < at
begun b from at l e f = go (ℕ_discrete from at)
  where
    go : Dec (from ≡ at) → from < at
    go (no d) = omega arith
    go (yes q) = absurd (true-not-false (sym e ∙ ap (digit_at b from) q ∙ f))

pub number_read : {b : List ℕ} {from at v : ℕ} → Counting b from at v → digit_at b from from ≡ true → digit_at b from at ≡ false → NumberIs b from (part v at)
number_read {b} {from} {at} {v} i e f ls n =
    let h = begun b from at i.later e f in
    record {
      atom = number i.done;
      its = ap capped i.its;
      later = h;
      inside = i.inside;
      scans = λ k s. ap (scan (want n k s)) i.split ∙ first-scans i.done n k s (drop at b) (omega (arith, i.long)) i.digits (omega (arith, i.long, i.few));
      full = λ l q. simp (le-ltb (length i.done) most_digits (omega (arith, i.long, digit-false b from at f l q)));
    }
