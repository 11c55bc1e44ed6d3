-- Two machines on the same choices, the second with times that are at least as long: they do the same commands, and the second's clocks and stamps are at least as late, by no more than its commands took longer.
use Prim.Native.Nat.{ℕ, zero, suc, ◌+◌, ◌≤◌, ◌<◌, max}
use native.Mathlib.Omega.{arith}
use native.Mathlib.Decide.{dec_lt}
use mathlib.Core.Bool.{Bool}
use mathlib.Core.Option.{Option, none, some}
use mathlib.Core.Path.{◌≡◌, refl, sym, ap, ◌∙◌, subst}
use mathlib.Core.Logic.{◌≢◌, ◌⊎◌, inl, inr, ⊎_elim}
use mathlib.Core.List.{List, [], ◌∷◌}
use lib.ListN.{length, set, length-set, get_or-eq_default}
use lib.Seq.{get_or-set_same, get_or-set_other, set_out}
use Rattle.folds.specs.Folds.{then, greatest}
use Rattle.folds.proofs.Tests.{equal-or, not_some}
use Rattle.folds.proofs.Laws.{sum-cong, greatest-mono, greatest-le}
use Rattle.sheet.specs.Sheet.{Sheet}
use Rattle.bundle.specs.Bundle.{Command, run, send, receive, release, discard, Bundle, programme_count, programme_of}
use Rattle.admission.specs.Counting.{stored}
use Rattle.admission.proofs.Weights.{command-below}
use Rattle.machine.specs.Machine.{State, Processor, fresh_processor, processor_of, stamp_of, next, waits, takes, after, posted, moved, step_in, holds_some}
use Rattle.machine.specs.Runs.{done_of, left_of, done, left, clock_of, latest, Later}
use Rattle.machine.proofs.Steps.{length-posted, other, self}

later_more : (e d : ℕ) (o p : Option ℕ) → Later e o p → Later (e + d) o p
later_more e d none none h = tt
later_more e d none (some y) h = absurd h
later_more e d (some x) none h = absurd h
later_more e d (some x) (some y) h = (h.0, omega (arith, h.1))

pub record Near (b : Bundle) (e : ℕ) (σ τ : State) : Type 0 where
  pub many : length σ.processors ≡ programme_count b
  pub many' : length τ.processors ≡ programme_count b
  pub links : length σ.stamps ≡ length τ.stamps
  pub position : (k : ℕ) → (processor_of σ k).position ≡ (processor_of τ k).position
  pub store : (k : ℕ) → (processor_of σ k).store ≡ (processor_of τ k).store
  pub clock : (k : ℕ) → (processor_of σ k).clock ≤ (processor_of τ k).clock
  pub behind : (k : ℕ) → (processor_of τ k).clock ≤ (processor_of σ k).clock + e
  pub stamp : (l : ℕ) → Later e (stamp_of σ l) (stamp_of τ l)

module _ (s : Sheet) (b : Bundle) where
  module _ {e : ℕ} {σ τ : State} (h : Near b e σ τ) where
    pub near_next : (k : ℕ) → next b σ k ≡ next b τ k
    unfolding next
    near_next k = rw (h.position k)

    pub near-left : (f : Command → ℕ) → left b σ f ≡ left b τ f
    unfolding left left_of
    near-left f = sum-cong (programme_count b) (left_of b σ f) (left_of b τ f) (λ k l. rw (h.position k))

    pub near-done_of : (f : Command → ℕ) (k : ℕ) → done_of b σ f k ≡ done_of b τ f k
    unfolding done_of
    near-done_of f k = rw (h.position k)

    pub near-done : (f : Command → ℕ) → done b σ f ≡ done b τ f
    unfolding done
    near-done f = sum-cong (programme_count b) (done_of b σ f) (done_of b τ f) (λ k l. near-done_of f k)

    pub near-latest : latest σ ≤ latest τ
    unfolding latest clock_of
    near-latest = rw (h.many, h.many') (greatest-mono (programme_count b) (clock_of σ) (clock_of τ) (λ k l. h.clock k))

    -- what is waited for is there in both, or in neither
    waits-near : (c : Command) → Later e (waits σ c) (waits τ c)
    waits-near (run t) = (omega arith, omega arith)
    waits-near (send l) = (omega arith, omega arith)
    waits-near (receive l) = h.stamp l
    waits-near (release t) = (omega arith, omega arith)
    waits-near (discard l) = (omega arith, omega arith)

    -- the same command, of the times x and y
    module _ (k : ℕ) (c : Command) (x y d w v : ℕ) (n : next b σ k ≡ some c) (p : x ≤ y) (q : y ≤ x + d) (r : Later e (some w) (some v)) where
      near-position : (j : ℕ) → (processor_of (moved s σ k c x w) j).position ≡ (processor_of (moved s τ k c y v) j).position
      near-position j =
          ⊎_elim (λ (z : j ≡ k). rw (z, self s b σ k c x w h.many n, self s b τ k c y v h.many' (sym (near_next k) ∙ n)) (ap suc (h.position k)))
          (λ z. rw (other s b σ k c x w j z, other s b τ k c y v j z) (h.position j)) (equal-or j k)

      near_store : (j : ℕ) → (processor_of (moved s σ k c x w) j).store ≡ (processor_of (moved s τ k c y v) j).store
      near_store j =
          ⊎_elim (λ (z : j ≡ k). rw (z, self s b σ k c x w h.many n, self s b τ k c y v h.many' (sym (near_next k) ∙ n)) (ap (stored s c) (h.store k)))
          (λ z. rw (other s b σ k c x w j z, other s b τ k c y v j z) (h.store j)) (equal-or j k)

      takes-near : (c : Command) → (takes c x ≤ takes c y) × (takes c y ≤ takes c x + d)
      takes-near (run t) = (p, q)
      takes-near (send l) = (omega arith, omega arith)
      takes-near (receive l) = (p, q)
      takes-near (release t) = (p, q)
      takes-near (discard l) = (p, q)

      near-clock : (j : ℕ) → (processor_of (moved s σ k c x w) j).clock ≤ (processor_of (moved s τ k c y v) j).clock
      near-clock j =
          ⊎_elim (λ (z : j ≡ k). rw (z, self s b σ k c x w h.many n, self s b τ k c y v h.many' (sym (near_next k) ∙ n)) (omega (arith, h.clock k, (takes-near c).0, r.0)))
          (λ z. rw (other s b σ k c x w j z, other s b τ k c y v j z) (h.clock j)) (equal-or j k)

      near-behind : (j : ℕ) → (processor_of (moved s τ k c y v) j).clock ≤ (processor_of (moved s σ k c x w) j).clock + (e + d)
      near-behind j =
          ⊎_elim (λ (z : j ≡ k). rw (z, self s b σ k c x w h.many n, self s b τ k c y v h.many' (sym (near_next k) ∙ n)) (omega (arith, h.behind k, (takes-near c).1, r.1)))
          (λ z. rw (other s b σ k c x w j z, other s b τ k c y v j z) (omega (arith, h.behind j))) (equal-or j k)

      near-stamp : (c : Command) (l : ℕ) → Later (e + d) (stamp_of (moved s σ k c x w) l) (stamp_of (moved s τ k c y v) l)
      unfolding stamp_of
      near-stamp (run t) l = later_more e d (stamp_of σ l) (stamp_of τ l) (h.stamp l)
      near-stamp (receive m) l = later_more e d (stamp_of σ l) (stamp_of τ l) (h.stamp l)
      near-stamp (release t) l = later_more e d (stamp_of σ l) (stamp_of τ l) (h.stamp l)
      near-stamp (discard m) l = later_more e d (stamp_of σ l) (stamp_of τ l) (h.stamp l)
      near-stamp (send m) l = go (dec_lt m (length σ.stamps)) (equal-or l m)
        where
          go : Dec (m < length σ.stamps) → (l ≡ m) ⊎ (l ≢ m) → Later (e + d) (stamp_of (moved s σ k (send m) x w) l) (stamp_of (moved s τ k (send m) y v) l)
          go (no g) j =
              rw (set_out σ.stamps m (some ((processor_of σ k).clock + x)) (omega arith), set_out τ.stamps m (some ((processor_of τ k).clock + y)) (omega (arith, h.links))) (later_more e d (stamp_of σ l) (stamp_of τ l) (h.stamp l))
          go (yes g) (inl j) =
              rw (j, get_or-set_same σ.stamps m (some ((processor_of σ k).clock + x)) none g, get_or-set_same τ.stamps m (some ((processor_of τ k).clock + y)) none (omega (arith, h.links))) (omega (arith, h.clock k), omega (arith, h.behind k))
          go (yes g) (inr j) =
              rw (get_or-set_other σ.stamps m l (some ((processor_of σ k).clock + x)) none j, get_or-set_other τ.stamps m l (some ((processor_of τ k).clock + y)) none j) (later_more e d (stamp_of σ l) (stamp_of τ l) (h.stamp l))

      near-moved : Near b (e + d) (moved s σ k c x w) (moved s τ k c y v)
      near-moved =
          record {
            many = simp length-set h.many;
            many' = simp length-set h.many';
            links = length-posted c ((processor_of σ k).clock + x) σ.stamps ∙ h.links ∙ sym (length-posted c ((processor_of τ k).clock + y) τ.stamps);
            position = near-position;
            store = near_store;
            clock = near-clock;
            behind = near-behind;
            stamp = near-stamp c;
          }

-- what a choice of k makes of σ and τ: nothing of either, or the command c of both
pub data Together (s : Sheet) (b : Bundle) (time time' : ℕ → Command → ℕ) (d : Command → ℕ) (e : ℕ) (σ τ : State) (k : ℕ) : Type 0 where
  neither : step_in s b time σ k ≡ none → step_in s b time' τ k ≡ none → Together s b time time' d e σ τ k
  stepped : (c : Command) (σ' τ' : State) → next b σ k ≡ some c → step_in s b time σ k ≡ some σ' → step_in s b time' τ k ≡ some τ' → Near b (e + d c) σ' τ'
      → Together s b time time' d e σ τ k

pub near_step : (s : Sheet) (b : Bundle) (time time' : ℕ → Command → ℕ) (d : Command → ℕ) (e : ℕ) (σ τ : State) (k : ℕ) → Near b e σ τ
    → ((c : Command) → time k c ≤ time' k c) → ((c : Command) → time' k c ≤ time k c + d c) → Together s b time time' d e σ τ k
unfolding step_in
near_step s b time time' d e σ τ k h p q = by_next (next b σ k) refl
  where
    by-waits : (c : Command) → next b σ k ≡ some c → (o u : Option ℕ) → waits σ c ≡ o → waits τ c ≡ u → Later e o u → Together s b time time' d e σ τ k
    by-waits c n none none f g r = neither (rw (n, f)) (rw (sym (near_next s b h k) ∙ n, g))
    by-waits c n none (some v) f g r = absurd r
    by-waits c n (some w) none f g r = absurd r
    by-waits c n (some w) (some v) f g r =
        stepped c (moved s σ k c (time k c) w) (moved s τ k c (time' k c) v) n (rw (n, f)) (rw (sym (near_next s b h k) ∙ n, g)) (near-moved s b h k c (time k c) (time' k c) (d c) w v n (p c) (q c) r)

    by_next : (o : Option Command) → next b σ k ≡ o → Together s b time time' d e σ τ k
    by_next none n = neither (rw n) (rw (sym (near_next s b h k) ∙ n))
    by_next (some c) n = by-waits c n (waits σ c) (waits τ c) refl refl (waits-near s b h c)
