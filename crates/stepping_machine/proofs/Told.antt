-- What words that represent a state say of a processor, of a stamp and of the commands left, also where there is none.
use Prim.Native.Nat.{ℕ, ◌+◌, ◌-◌, ◌<◌, ◌≤◌}
use mathlib.Core.Path.{◌≡◌, sym, ap, ◌∙◌}
use mathlib.Core.Option.{none}
use mathlib.Core.List.{List}
use mathlib.Core.Logic.{⊎_elim}
use native.Mathlib.Omega.{arith}
use native.Mathlib.Numerals.{add-one}
use lib.ListN.{length, drop, length-drop, get_or-eq_default}
use lib.Seq.{drop-nil}
use lib.Dec.{ltb}
use Rattle.folds.specs.Folds.{sum, greatest}
use Rattle.folds.proofs.Tests.{ltb-same}
use Rattle.folds.proofs.Laws.{sum-cong, sum-skip, sum_zeros, greatest-cong}
use Rattle.sheet.specs.Sheet.{Sheet}
use Rattle.bundle.specs.Bundle.{Command, Bundle, programme_count, programme_of}
use Rattle.admission.specs.Counting.{weigh, each}
use Rattle.admission.proofs.Weights.{programme-or, weigh-each}
use Rattle.machine.specs.Machine.{State, Processor, fresh_processor, processor_of, stamp_of, stamp_in}
use Rattle.machine.specs.Runs.{left_of, left, clock_of, latest}
use Rattle.stepping_machine.specs.Layout as lay
use Rattle.stepping_machine.specs.Words.{next_in, clock_in, store_in, first_in, last_in, count_in, links_in, stamped_in}
use Rattle.stepping_machine.specs.Represents.{Represents, LeftIs, ClockIs, PositionIs, StoreIs, StampIs}

module _ (w : List ℕ) (k r : ℕ) where
  nobody : 16 ≤ k → (s : Sheet) (b : Bundle) (σ : State) → Represents s b w σ → processor_of σ k ≡ fresh_processor
  unfolding processor_of
  nobody e s b σ h = get_or-eq_default σ.processors fresh_processor {n = k} (omega (arith, h.processors, h.programmed.few))

  pub no-clock : 16 ≤ k → ClockIs w k 0
  no-clock e = record { is = λ s b σ h. ap {B = ℕ} (λ (p : Processor). p.clock) (sym (nobody e s b σ h)) }

  pub some-clock : k < 16 → r ≡ clock_in w k → ClockIs w k r
  some-clock e f = record { is = λ s b σ h. omega (arith, h.clock k e) }

  pub no-position : 16 ≤ k → PositionIs w k 0
  no-position e = record { is = λ s b σ h. ap {B = ℕ} (λ (p : Processor). p.position) (sym (nobody e s b σ h)) }

  pub some-position : k < 16 → r ≡ next_in w k - first_in w k → PositionIs w k r
  some-position e f = record { is = λ s b σ h. omega (arith, h.next k e) }

  pub no_store : 16 ≤ k → StoreIs w k 0
  no_store e = record { is = λ s b σ h. ap {B = ℕ} (λ (p : Processor). p.store) (sym (nobody e s b σ h)) }

  pub some-store : k < 16 → r ≡ store_in w k → StoreIs w k r
  some-store e f = record { is = λ s b σ h. f ∙ h.store k e }

  pub no-stamp : links_in w ≤ k → StampIs w k 0
  unfolding stamp_of
  no-stamp e = record { is = λ s b σ h. sym (get_or-eq_default σ.stamps none {n = k} (omega (arith, h.stamps, h.programmed.links))) }

  pub some-stamp : k < links_in w → r ≡ stamped_in w k → StampIs w k r
  some-stamp e f = record { is = λ s b σ h. ap stamp_in f ∙ h.stamp k (omega (arith, h.programmed.links)) }

-- the commands that processor k has left
abbrev pub left_in : List ℕ → ℕ → ℕ
left_in w k = last_in w k - next_in w k

pub left-more : (w : List ℕ) (k n x : ℕ) → n ≡ sum k (left_in w) → x ≡ last_in w k - next_in w k → n + x ≡ sum (k + 1) (left_in w)
unfolding sum
left-more w k n x e f = rw (add-one, e, f)

module _ (s : Sheet) (b : Bundle) (w : List ℕ) (σ : State) (h : Represents s b w σ) where
  one_left : (k : ℕ) → k < 16 → left_in w k ≡ left_of b σ each k
  unfolding left_of
  one_left k l =
      omega (
        arith,
        h.next k l,
        h.inside k l,
        h.programmed.last k l,
        weigh-each (drop (processor_of σ k).position (programme_of b k)),
        length-drop (processor_of σ k).position (programme_of b k),
      )

  none_left : (k : ℕ) → programme_count b ≤ k → left_of b σ each k ≡ 0
  unfolding left_of weigh
  none_left k l =
      ⊎_elim (λ i. absurd (omega arith))
      (λ q. ap (λ (p : List Command). weigh each (drop (processor_of σ k).position p)) q ∙ ap (weigh each) (drop-nil (processor_of σ k).position)) (programme-or b k)

  all_left : sum 16 (left_in w) ≡ left b σ each
  unfolding left
  all_left =
      let few = h.programmed.few in
      let d : 16 ≡ programme_count b + (16 - programme_count b) = omega arith in
      sum-cong 16 (left_in w) (left_of b σ each) one_left ∙ ap (λ (n : ℕ). sum n (left_of b σ each)) d
      ∙ sum-skip (left_of b σ each) (programme_count b) (16 - programme_count b) (λ i l m. none_left i l)

pub left-all : (w : List ℕ) (k n : ℕ) → n ≡ sum k (left_in w) → k ≡ 16 → LeftIs w n
left-all w k n e f =
    record {
      is = λ s b σ h. e ∙ ap (λ (i : ℕ). sum i (left_in w)) f ∙ all_left s b w σ h;
      blank = λ z. e ∙ sum_zeros k (left_in w) (λ j l. omega (arith, z (lay.lasts + j)));
    }

-- 29 and 30 by the words: commands are left where the next one is not the last's index, and the latest clock is the greatest of the programmes' clocks
module _ (s : Sheet) (b : Bundle) (w : List ℕ) (σ : State) (h : Represents s b w σ) where
  pub left_at : (k : ℕ) → k < 16 → ltb (processor_of σ k).position (length (programme_of b k)) ≡ ltb (next_in w k) (last_in w k)
  left_at k l =
      ltb-same (processor_of σ k).position (length (programme_of b k)) (next_in w k) (last_in w k) (λ i. omega (arith, h.next k l, h.programmed.last k l))
      (λ i. omega (arith, h.next k l, h.programmed.last k l))

  pub latest-by : latest σ ≡ greatest (count_in w) (clock_in w)
  unfolding latest clock_of
  latest-by =
      let few = h.programmed.few in
      let n : count_in w ≡ length σ.processors = h.programmed.programmes ∙ sym h.processors in
      sym (ap (λ (i : ℕ). greatest i (clock_in w)) n ∙ greatest-cong (length σ.processors) (clock_in w) (clock_of σ) (λ j l. h.clock j (omega (arith, h.processors))))
