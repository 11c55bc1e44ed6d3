-- A bundle whose commands were all met as runs, sends and receives has no release, and so no wrong one.
use Prim.Native.Nat.{ℕ, ◌+◌, ◌-◌, ◌≤◌}
use mathlib.Core.Path.{◌≡◌, refl, sym, ap, ◌∙◌}
use mathlib.Core.Bool.{Bool, true, false}
use mathlib.Core.Option.{none}
use mathlib.Core.Logic.{◌≢◌, ⊎_elim}
use mathlib.Core.List.{List, [], ◌∷◌}
use native.Mathlib.Omega.{arith}
use native.Mathlib.Decide.{dec_lt}
use lib.Dec.{ltb}
use Rattle.folds.specs.Folds.{bit, sum}
use Rattle.folds.proofs.Tests.{bit_le}
use Rattle.folds.proofs.Laws.{sum-add, sum-cong, sum_mono, sum-only, sum-swap, sum_zeros, term-le-sum}
use Rattle.sheet.specs.Sheet.{Sheet}
use Rattle.bundle.specs.Bundle.{Command, Bundle, programme_count, programme_of}
use Rattle.admission.specs.Counting.{weigh, whole_of, whole, each, same, is}
use Rattle.admission.specs.Releases.{is_release, frees, at37}
use Rattle.admission.specs.Notes.{notable, slot_of, command_of, sofar, met, rank}
use Rattle.admission.proofs.Weights.{command-below, weigh-drop, weigh-split}
use Rattle.admission.proofs.Rights.{plain-release, right-all}
use Rattle.admission.proofs.Ranks.{is-or, slot-command, command-plain, sofar-whole}

-- 1 at any command but a release
plain : Command → ℕ
plain c = 1 - frees c

-- a command has one slot at most, and a release none with a note
one-slot : (c : Command) → sum notable (λ x. is (command_of x) c) ≤ plain c
unfolding is plain
one-slot c = by (is_release c) refl
  where
    other : (x : ℕ) → x ≢ slot_of c → is (command_of x) c ≡ 0
    other x d = ⊎_elim (λ (q : command_of x ≡ c). absurd (d (sym (slot-command x) ∙ ap slot_of q))) (λ q. q) (is-or (command_of x) c)

    by : (y : Bool) → is_release c ≡ y → sum notable (λ x. is (command_of x) c) ≤ 1 - bit y
    by true e = omega (arith, sum_zeros notable (λ x. is (command_of x) c) (λ x l. plain-release (command_of x) c (command-plain x) e))
    by false e =
        elim (dec_lt (slot_of c) notable) [
          | yes l ↦ omega (arith, sum-only notable (λ x. is (command_of x) c) (slot_of c) l other, bit_le (same (command_of (slot_of c)) c))
          | no l ↦ omega (arith, sum_zeros notable (λ x. is (command_of x) c) (λ x m. other x (λ q. omega arith)))
        ]

weigh-mono : (f g : Command → ℕ) → ((c : Command) → f c ≤ g c) → (q : List Command) → weigh f q ≤ weigh g q
unfolding weigh
weigh-mono f g h [] = omega arith
weigh-mono f g h (c ∷ q) = omega (arith, h c, weigh-mono f g h q)

weigh-sum : (n : ℕ) (f : ℕ → Command → ℕ) (q : List Command) → sum n (λ x. weigh (f x) q) ≡ weigh (λ c. sum n (λ x. f x c)) q
unfolding weigh
weigh-sum n f [] = sum_zeros n (λ x. 0) (λ x l. refl)
weigh-sum n f (c ∷ q) = omega (arith, sum-add n (λ x. f x c) (λ x. weigh (f x) q), weigh-sum n f q)

parted : (q : List Command) → weigh plain q + weigh frees q ≡ weigh each q
unfolding weigh plain
parted [] = refl
parted (c ∷ q) = omega (arith, parted q, bit_le (is_release c))

-- no more commands are met than stand there
met-most : (b : Bundle) → rank b (programme_count b) 0 + whole b frees ≤ whole b each
unfolding rank met whole whole_of
met-most b =
    let n = programme_count b in
    omega (
      arith,
      sum_mono notable (λ x. bit (ltb 0 (sofar b n 0 (command_of x)))) (λ x. whole b (is (command_of x))) (λ x l. some-le x),
      sum-swap notable n (λ x k. weigh (is (command_of x)) (programme_of b k)),
      sum-cong n (λ k. sum notable (λ x. weigh (is (command_of x)) (programme_of b k))) (λ k. weigh (λ c. sum notable (λ x. is (command_of x) c)) (programme_of b k))
          (λ k l. weigh-sum notable (λ x. is (command_of x)) (programme_of b k)),
      sum_mono n (λ k. weigh (λ c. sum notable (λ x. is (command_of x) c)) (programme_of b k)) (λ k. weigh plain (programme_of b k))
          (λ k l. weigh-mono (λ c. sum notable (λ x. is (command_of x) c)) plain one-slot (programme_of b k)),
      sum-add n (λ k. weigh plain (programme_of b k)) (λ k. weigh frees (programme_of b k)),
      sum-cong n (λ k. weigh plain (programme_of b k) + weigh frees (programme_of b k)) (λ k. weigh each (programme_of b k)) (λ k l. parted (programme_of b k)),
    )
  where
    some-le : (x : ℕ) → bit (ltb 0 (sofar b (programme_count b) 0 (command_of x))) ≤ whole b (is (command_of x))
    some-le x =
        elim (dec_lt 0 (whole b (is (command_of x)))) [
          | yes h ↦ omega (arith, bit_le (ltb 0 (sofar b (programme_count b) 0 (command_of x))))
          | no h ↦ let z : sofar b (programme_count b) 0 (command_of x) ≡ 0 = omega (arith, sofar-whole b (command_of x)) in rw z (omega arith)
        ]

-- a bundle without releases
pub none-37 : (s : Sheet) (b : Bundle) → whole b frees ≡ 0 → at37 s b ≡ none
unfolding whole whole_of
none-37 s b z =
    right-all s b
    (λ k i c e f.
    absurd
    (omega (
      arith,
      term-le-sum (programme_count b) (whole_of b frees) k (command-below b k i c e),
      weigh-split frees (programme_of b k) i,
      weigh-drop frees (programme_of b k) i c e,
      ap bit f,
    )))

pub all-met : (s : Sheet) (b : Bundle) → rank b (programme_count b) 0 ≡ whole b each → at37 s b ≡ none
all-met s b e = none-37 s b (omega (arith, met-most b))
