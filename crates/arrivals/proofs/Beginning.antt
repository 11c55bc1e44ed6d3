-- Before the first turn all that is kept is 0.
use Prim.Native.Nat.{ℕ, ◌+◌, ◌*◌, ◌≤◌, ◌<◌}
use mathlib.Core.Bool.{Bool, true, false, true≢false}
use mathlib.Core.Path.{◌≡◌, refl, ap, sym, ◌∙◌}
use mathlib.Core.List.{List}
use native.Mathlib.Omega.{arith}
use borrow.Author.Tests.{ne_eqb, le-ltb}
use lib.ListN.{get_or}
use Rattle.folds.specs.Folds.{pick, bit, both, sum, greatest}
use Rattle.folds.proofs.Laws.{none_any, sum_zeros, greatest-le}
use Rattle.sheet.specs.Sheet.{Sheet, task_count, link_count, source_of, target_of}
use Rattle.planner.specs.Schedule.{Schedule, placed, stands, place_of}
use Rattle.planner.specs.Placing.{reach_by, end_by, end_of, store_by, bytes_by, store_on, is_open}
use Rattle.arrivals.specs.Layout.{seen_from, arrivals_from, senders_from, ends_from, stores_from, open_from, waiting_from, packed_from, kept_length}
use Rattle.arrivals.specs.Kept.{counted_by, into, into_from, waits, one_by, known, Counted, Ends, Closed}
use Rattle.arrivals.specs.Steps.{Zero}
use Rattle.arrivals.proofs.Fours.{four-zero}

module _ (s : Sheet) (σ : Schedule) (free : (u : ℕ) → place_of σ u ≡ 16) where
  not-placed : (u : ℕ) → placed σ u ≡ false
  unfolding placed
  not-placed u = le-ltb (place_of σ u) 16 (omega (arith, free u))

  nowhere-on : (u k : ℕ) → k < 16 → stands σ u k ≡ false
  unfolding stands
  nowhere-on u k h = ne_eqb (place_of σ u) k (λ x. absurd (omega (arith, free u)))

  unknown : (q : ℕ → Bool) (x : ℕ → ℕ) (l : ℕ) → counted_by q x (known s σ) l ≡ 0
  unfolding counted_by
  unknown q x l = rw (not-placed (source_of s l)) (go (q l))
    where
      go : (b : Bool) → pick (both b false) (x l) 0 ≡ 0
      go true = refl
      go false = refl

  no-sum : (q : ℕ → Bool) (x : ℕ → ℕ) → sum (link_count s) (counted_by q x (known s σ)) ≡ 0
  no-sum q x = sum_zeros (link_count s) (counted_by q x (known s σ)) (λ l h. unknown q x l)

  no-most : (q : ℕ → Bool) (x : ℕ → ℕ) → greatest (link_count s) (counted_by q x (known s σ)) ≡ 0
  no-most q x = omega (arith, greatest-le (link_count s) (counted_by q x (known s σ)) 0 (λ l h. omega (arith, unknown q x l)))

  no_end : (k : ℕ) → k < 16 → end_of s σ k ≡ 0
  unfolding end_of end_by
  no_end k h = omega (arith, greatest-le (task_count s) (end_by s σ k) 0 (λ u l. rw (nowhere-on u k h) (omega arith)))

  no_store : (k : ℕ) → k < 16 → store_on s σ k ≡ 0
  unfolding store_on store_by bytes_by
  no_store k h =
      omega (
        arith,
        sum_zeros (task_count s) (store_by s σ k) (λ u l. rw (nowhere-on u k h)),
        sum_zeros (link_count s) (bytes_by s σ k) (λ l g. rw (nowhere-on (target_of s l) k h)),
      )

  no-open : (k : ℕ) → k < 16 → is_open s σ k ≡ false
  unfolding is_open
  no-open k h = none_any (task_count s) (λ u. stands σ u k) (λ u l. nowhere-on u k h)

  -- in words of 0
  module _ (kept : List ℕ) (few : task_count s ≤ 256) (zero : Zero seen_from kept_length kept) where
    z : (i : ℕ) → seen_from ≤ i → i < kept_length → get_or kept i 0 ≡ 0
    z = zero.at

    pub counted-zero : Counted s σ (known s σ) kept
    counted-zero =
        record {
          seen = λ t h. z (seen_from + t) (omega arith) (omega arith) ∙ sym (no-sum (into s t) one_by);
          arrived = λ t h. z (arrivals_from + t) (omega arith) (omega arith) ∙ sym (no-most (into s t) (reach_by s σ));
          main = λ t h. z (arrivals_from + t) (omega arith) (omega arith) ∙ sym (no-most (into_from s σ t (get_or kept (senders_from + t) 0)) (reach_by s σ));
          pending = λ k h. z (waiting_from + k) (omega arith) (omega arith) ∙ sym (no-sum (waits s σ k) one_by);
          packed = λ t j h g. z (packed_from + (4 * t + j)) (omega arith) (omega arith) ∙ sym (four-zero _ (λ i p. no-sum (into_from s σ t (4 * j + i)) one_by));
        }

    pub ends-zero : Ends s σ kept
    ends-zero =
        record {
          ends = λ k h. z (ends_from + k) (omega arith) (omega arith) ∙ sym (no_end k h);
          stores = λ k h. z (stores_from + k) (omega arith) (omega arith) ∙ sym (no_store k h);
          opens = λ k h. z (open_from + k) (omega arith) (omega arith) ∙ sym (ap bit (no-open k h));
        }

  pub closed-zero : Closed s σ
  closed-zero l h e = absurd (true≢false (sym e ∙ not-placed (target_of s l)))
