-- The words that counting a link writes.
use Prim.Native.Nat.{ℕ, ◌+◌, ◌*◌, ◌/◌, ◌≤◌, ◌<◌}
use mathlib.Core.Path.{◌≡◌}
use mathlib.Core.Logic.{◌≢◌}
use mathlib.Core.List.{List}
use native.Mathlib.Omega.{arith}
use lib.ListN.{length, get_or, set, length-set}
use lib.Seq.{get_or-set_same, get_or-set_other}
use Rattle.arrivals.specs.Layout.{seen_from, arrivals_from, senders_from, waiting_from, packed_from, kept_length}
use Rattle.arrivals.specs.Steps.{count_words, Beside}
use Rattle.arrivals.specs.declared.Reach.{Reach}

-- what stands in each of them, and that those of other tasks and processors are as they were
pub record Wrote (w : List ℕ) (v k seen : ℕ) (reach : Reach) (pending number : ℕ) (w' : List ℕ) : Type 0 where
  pub beside : Beside w w'
  pub seen_is : get_or w' (seen_from + v) 0 ≡ seen
  pub most_is : get_or w' (arrivals_from + v) 0 ≡ reach.most
  pub at_is : get_or w' (senders_from + v) 0 ≡ reach.at
  pub pending_is : get_or w' (waiting_from + k) 0 ≡ pending
  pub number_is : get_or w' (packed_from + (4 * v + k / 4)) 0 ≡ number
  pub seen_else : (u : ℕ) → u < 256 → u ≢ v → get_or w' (seen_from + u) 0 ≡ get_or w (seen_from + u) 0
  pub most_else : (u : ℕ) → u < 256 → u ≢ v → get_or w' (arrivals_from + u) 0 ≡ get_or w (arrivals_from + u) 0
  pub at_else : (u : ℕ) → u < 256 → u ≢ v → get_or w' (senders_from + u) 0 ≡ get_or w (senders_from + u) 0
  pub pending_else : (j : ℕ) → j < 16 → j ≢ k → get_or w' (waiting_from + j) 0 ≡ get_or w (waiting_from + j) 0
  pub number_else : (u j : ℕ) → j < 4 → 4 * u + j ≢ 4 * v + k / 4 → get_or w' (packed_from + (4 * u + j)) 0 ≡ get_or w (packed_from + (4 * u + j)) 0

module _ (w : List ℕ) (v k seen : ℕ) (reach : Reach) (pending number : ℕ) (long : kept_length ≤ length w) (v-in : v < 256) (k-in : k < 16) where
  abbrev new : List ℕ
  new = count_words w v k seen reach pending number

  away : (i : ℕ) → i ≢ seen_from + v → i ≢ arrivals_from + v → i ≢ senders_from + v → i ≢ waiting_from + k → i ≢ packed_from + (4 * v + k / 4) → get_or new i 0 ≡ get_or w i 0
  unfolding count_words
  away i h₁ h₂ h₃ h₄ h₅ = simp get_or-set_other

  new-seen : get_or new (seen_from + v) 0 ≡ seen
  unfolding count_words
  new-seen =
      let h1 : seen_from + v ≢ arrivals_from + v = omega arith in
      let h3 : seen_from + v ≢ senders_from + v = omega arith in
      let h4 : seen_from + v ≢ waiting_from + k = omega arith in
      let h5 : seen_from + v ≢ packed_from + (4 * v + k / 4) = omega arith in
      let l : seen_from + v < length w = omega arith in
      simp (get_or-set_other, get_or-set_same)

  new-most : get_or new (arrivals_from + v) 0 ≡ reach.most
  unfolding count_words
  new-most =
      let h3 : arrivals_from + v ≢ senders_from + v = omega arith in
      let h4 : arrivals_from + v ≢ waiting_from + k = omega arith in
      let h5 : arrivals_from + v ≢ packed_from + (4 * v + k / 4) = omega arith in
      let l : arrivals_from + v < length (set w (seen_from + v) seen) = simp length-set (omega arith) in
      simp (get_or-set_other, get_or-set_same)

  new-at : get_or new (senders_from + v) 0 ≡ reach.at
  unfolding count_words
  new-at =
      let h4 : senders_from + v ≢ waiting_from + k = omega arith in
      let h5 : senders_from + v ≢ packed_from + (4 * v + k / 4) = omega arith in
      let l : senders_from + v < length (set (set w (seen_from + v) seen) (arrivals_from + v) reach.most) = simp length-set (omega arith) in
      simp (get_or-set_other, get_or-set_same)

  new-pending : get_or new (waiting_from + k) 0 ≡ pending
  unfolding count_words
  new-pending =
      let h5 : waiting_from + k ≢ packed_from + (4 * v + k / 4) = omega arith in
      let l : waiting_from + k < length (set (set (set w (seen_from + v) seen) (arrivals_from + v) reach.most) (senders_from + v) reach.at) = simp length-set (omega arith) in
      simp (get_or-set_other, get_or-set_same)

  new-number : get_or new (packed_from + (4 * v + k / 4)) 0 ≡ number
  unfolding count_words
  new-number =
      let l : packed_from + (4 * v + k / 4) < length (set (set (set (set w (seen_from + v) seen) (arrivals_from + v) reach.most) (senders_from + v) reach.at) (waiting_from + k) pending) = simp length-set (omega arith) in
      simp get_or-set_same

  pub count-wrote : Wrote w v k seen reach pending number new
  unfolding count_words
  count-wrote =
      record {
        beside =
            record {
              long = simp length-set;
              low = λ i h. away i (omega arith) (omega arith) (omega arith) (omega arith) (omega arith);
              mid = λ i h g. away i (omega arith) (omega arith) (omega arith) (omega arith) (omega arith);
            };
        seen_is = new-seen;
        most_is = new-most;
        at_is = new-at;
        pending_is = new-pending;
        number_is = new-number;
        seen_else = λ u h d. away (seen_from + u) (λ q. d (omega arith)) (omega arith) (omega arith) (omega arith) (omega arith);
        most_else = λ u h d. away (arrivals_from + u) (omega arith) (λ q. d (omega arith)) (omega arith) (omega arith) (omega arith);
        at_else = λ u h d. away (senders_from + u) (omega arith) (omega arith) (λ q. d (omega arith)) (omega arith) (omega arith);
        pending_else = λ j h d. away (waiting_from + j) (omega arith) (omega arith) (omega arith) (λ q. d (omega arith)) (omega arith);
        number_else = λ u j h d. away (packed_from + (4 * u + j)) (omega arith) (omega arith) (omega arith) (omega arith) (λ q. d (omega arith));
      }
