-- Numbers in four bytes each: the slots, and the report.
use Prim.Native.Nat.{ℕ, zero, suc, ◌+◌, ◌*◌, ◌<◌}
use native.Mathlib.Omega.{arith}
use native.Mathlib.Numerals.{add-one}
use mathlib.Core.Path.{◌≡◌, refl, sym, ap, ◌∙◌}
use mathlib.Core.Logic.{⊎_elim}
use mathlib.Core.List.{List, ◌++◌, append_assoc}
use lib.ListN.{length, get_or, length-append}
use Rattle.folds.specs.Folds.{gather}
use Rattle.folds.proofs.Tests.{below_suc}
use Rattle.numbers.specs.Number.{number_at, number_bytes, stored}
use Rattle.numbers.proofs.Laws.{stored-then, stored-none, number_at-append, number-of-bytes}
use Rattle.sheet.specs.Sheet.{Sheet, task_count}
use Rattle.bundle.specs.Bundle.{Bundle}
use Rattle.drift.specs.Drift.{drift_of}
use Rattle.drift.specs.Reporting.{drift_bytes, slot_bytes}

module _ (f : ℕ → ℕ) where
  fours-long : (n : ℕ) → length (gather n (λ t. number_bytes 4 (f t))) ≡ 4 * n
  unfolding gather
  fours-long zero = refl
  fours-long (suc n) = length-append (gather n (λ t. number_bytes 4 (f t))) (number_bytes 4 (f n)) ∙ omega (arith, fours-long n)

  fours-at : (n : ℕ) (rest : List ℕ) → ((i : ℕ) → i < n → f i < 4294967296) → (i : ℕ) → i < n → number_at 4 (gather n (λ t. number_bytes 4 (f t)) ++ rest) (4 * i) ≡ f i
  unfolding gather
  fours-at zero rest h i l = absurd (omega arith)
  fours-at (suc n) rest h i l =
      let front = gather n (λ t. number_bytes 4 (f t)) in
      ap (λ (b : List ℕ). number_at 4 b (4 * i)) (append_assoc front (number_bytes 4 (f n)) rest) ∙
      ⊎_elim (λ m. fours-at n (number_bytes 4 (f n) ++ rest) (λ j k. h j (omega arith)) i m)
      (λ (e : i ≡ n).
      ap (λ (j : ℕ). number_at 4 (front ++ (number_bytes 4 (f n) ++ rest)) j) (omega (arith, fours-long n)) ∙ number_at-append 4 front (number_bytes 4 (f n) ++ rest) 0
      ∙ number-of-bytes 4 (f n) rest (h n (omega arith)) ∙ ap f (sym e)) (below_suc l)

pub length-slots : (slots : List ℕ) (n : ℕ) → length (slot_bytes slots n) ≡ 4 * n
unfolding slot_bytes
length-slots slots n = fours-long (λ t. get_or slots t 0) n

pub slots-none : (old slots : List ℕ) → old ≡ stored old 0 (slot_bytes slots 0)
unfolding slot_bytes gather
slots-none old slots = stored-none old

slots-suc : (slots : List ℕ) (t : ℕ) → slot_bytes slots (suc t) ≡ slot_bytes slots t ++ number_bytes 4 (get_or slots t 0)
unfolding slot_bytes gather
slots-suc slots t = refl

pub slots-more : (old slots out last : List ℕ) (t v : ℕ) → out ≡ stored old 0 (slot_bytes slots t) → v ≡ get_or slots t 0 → last ≡ stored out (4 * t) (number_bytes 4 v) → last ≡ stored old 0 (slot_bytes slots (t + 1))
slots-more old slots out last t v e f h =
    let next : slot_bytes slots t ++ number_bytes 4 v ≡ slot_bytes slots (t + 1) =
    ap (λ (x : ℕ). slot_bytes slots t ++ number_bytes 4 x) f ∙ sym (slots-suc slots t) ∙ ap (slot_bytes slots) (sym (add-one t)) in
    stored-then old out last 0 (4 * t) (slot_bytes slots t) (number_bytes 4 v) e h (omega (arith, length-slots slots t)) (omega arith) ∙ ap (stored old 0) next

pub slots_end : (old slots out : List ℕ) (t n : ℕ) → t ≡ n → out ≡ stored old 0 (slot_bytes slots t) → out ≡ stored old 0 (slot_bytes slots n)
slots_end old slots out t n e f = f ∙ ap (λ (x : ℕ). stored old 0 (slot_bytes slots x)) e

-- the report
module _ (s : Sheet) (b : Bundle) where
  pub drift-long : length (drift_bytes s b) ≡ 4 * task_count s
  unfolding drift_bytes
  drift-long = fours-long (drift_of s b) (task_count s)

  pub drift-at : (rest : List ℕ) → ((t : ℕ) → t < task_count s → drift_of s b t < 4294967296) → (t : ℕ) → t < task_count s → number_at 4 (drift_bytes s b ++ rest) (4 * t) ≡ drift_of s b t
  unfolding drift_bytes
  drift-at rest = fours-at (drift_of s b) (task_count s) rest
