-- Receives in rising link number: when they end, and that nothing waits for a predecessor on the own processor.
use Prim.Native.Nat.{ℕ, zero, suc, ◌+◌, ◌≤◌, ◌<◌, max}
use native.Mathlib.Omega.{arith}
use native.Mathlib.Numerals.{add-one}
use mathlib.Core.Bool.{Bool, true, false, not}
use mathlib.Core.Path.{◌≡◌, refl, ap, ◌∙◌}
use Rattle.folds.specs.Folds.{pick, both, sum, greatest}
use Rattle.folds.proofs.Laws.{term-le-greatest, greatest-le}
use Rattle.sheet.specs.Sheet.{Sheet, task_count, link_count, source_of}
use Rattle.planner.specs.Schedule.{Schedule, finish_of, stands}
use Rattle.planner.specs.Placing.{comes, reach_by, reach_on, arrival_by, arrival, unpacked, ready_arrival, end_by, end_of, elsewhere, near_by, start_on}

module _ (s : Sheet) (test : ℕ → Bool) (x : ℕ → ℕ) (e : ℕ) where
  -- one link more, as a loop counts
  pub unpacked-one : (n : ℕ) → unpacked s test x e (n + 1) ≡ pick (test n) (max (unpacked s test x e n) (x n) + s.unpacking) (unpacked s test x e n)
  unfolding unpacked
  unpacked-one n = rw add-one

  -- they end no earlier than they begin, nor than any message is there
  pub unpacked-from : (n : ℕ) → e ≤ unpacked s test x e n
  unfolding unpacked
  unpacked-from zero = omega arith
  unpacked-from (suc n) = go (test n) (unpacked-from n)
    where
      go : (u : Bool) → e ≤ unpacked s test x e n → e ≤ pick u (max (unpacked s test x e n) (x n) + s.unpacking) (unpacked s test x e n)
      go true h = omega arith
      go false h = h

  pub unpacked-past : (n : ℕ) → greatest n (λ l. pick (test l) (x l) 0) ≤ unpacked s test x e n
  unfolding unpacked greatest
  unpacked-past zero = omega arith
  unpacked-past (suc n) = go (test n) (unpacked-past n)
    where
      go : (u : Bool) → greatest n (λ l. pick (test l) (x l) 0) ≤ unpacked s test x e n
          → max (greatest n (λ l. pick (test l) (x l) 0)) (pick u (x n) 0) ≤ pick u (max (unpacked s test x e n) (x n) + s.unpacking) (unpacked s test x e n)
      go true h = omega arith
      go false h = omega arith

  -- links that bring nothing are skipped
  pub unpacked-skip : (a d : ℕ) → ((i : ℕ) → a ≤ i → i < a + d → test i ≡ false) → unpacked s test x e (a + d) ≡ unpacked s test x e a
  unfolding unpacked
  unpacked-skip a zero h = let z : a + 0 ≡ a = omega arith in ap (unpacked s test x e) z
  unpacked-skip a (suc d) h =
      let z : a + suc d ≡ suc (a + d) = omega arith in
      ap (unpacked s test x e) z ∙ rw (h (a + d) (omega arith) (omega arith)) (unpacked-skip a d (λ i p q. h i p (omega arith)))

  -- where a receive takes no time, they end when the last message is there
  pub unpacked-none : s.unpacking ≡ 0 → (n : ℕ) → unpacked s test x e n ≡ max e (greatest n (λ l. pick (test l) (x l) 0))
  unfolding unpacked greatest
  unpacked-none z zero = omega arith
  unpacked-none z (suc n) = go (test n) (unpacked-none z n)
    where
      go : (u : Bool) → unpacked s test x e n ≡ max e (greatest n (λ l. pick (test l) (x l) 0))
          → pick u (max (unpacked s test x e n) (x n) + s.unpacking) (unpacked s test x e n) ≡ max e (max (greatest n (λ l. pick (test l) (x l) 0)) (pick u (x n) 0))
      go true h = omega (arith, z)
      go false h = omega arith

  -- where link l adds at most c l to the bound b
  pub unpacked-le : (b : ℕ) (c : ℕ → ℕ) → e ≤ b → ((l : ℕ) → test l ≡ true → (x l + s.unpacking ≤ b + c l) × (s.unpacking ≤ c l)) → (n : ℕ) → unpacked s test x e n ≤ b + sum n c
  unfolding unpacked sum
  unpacked-le b c h g zero = omega arith
  unpacked-le b c h g (suc n) = go (test n) refl (unpacked-le b c h g n)
    where
      go : (u : Bool) → test n ≡ u → unpacked s test x e n ≤ b + sum n c → pick u (max (unpacked s test x e n) (x n) + s.unpacking) (unpacked s test x e n) ≤ b + (sum n c + c n)
      go true q i = omega (arith, (g n q).0, (g n q).1)
      go false q i = omega (arith, i)

-- alike where links and messages are alike
pub unpacked-cong : (s : Sheet) (p q : ℕ → Bool) (x y : ℕ → ℕ) (e n : ℕ) → ((l : ℕ) → l < n → p l ≡ q l) → ((l : ℕ) → l < n → p l ≡ true → x l ≡ y l) → unpacked s p x e n ≡ unpacked s q y e n
unfolding unpacked
unpacked-cong s p q x y e zero f g = refl
unpacked-cong s p q x y e (suc n) f g = go (p n) refl (unpacked-cong s p q x y e n (λ l h. f l (omega arith)) (λ l h. g l (omega arith)))
  where
    go : (u : Bool) → p n ≡ u → unpacked s p x e n ≡ unpacked s q y e n
        → pick (p n) (max (unpacked s p x e n) (x n) + s.unpacking) (unpacked s p x e n) ≡ pick (q n) (max (unpacked s q y e n) (y n) + s.unpacking) (unpacked s q y e n)
    go true z i = rw (← f n (omega arith), z, i, g n (omega arith) z)
    go false z i = rw (← f n (omega arith), z) i

module _ (s : Sheet) (σ : Schedule) (t : ℕ) where
  -- A is no earlier than the last message
  pub arrival-le : arrival s σ t ≤ ready_arrival s σ t
  unfolding arrival arrival_by ready_arrival
  arrival-le = unpacked-past s (comes s σ t) (reach_by s σ) 0 (link_count s)

  pub arrival-none : s.unpacking ≡ 0 → ready_arrival s σ t ≡ arrival s σ t
  unfolding arrival arrival_by ready_arrival
  arrival-none z = unpacked-none s (comes s σ t) (reach_by s σ) 0 z (link_count s) ∙ omega arith

  module _ (k : ℕ) where
    pub end-le-start : end_of s σ k ≤ start_on s σ t k
    unfolding start_on
    end-le-start = omega (arith, unpacked-from s (elsewhere s σ t k) (reach_on s σ k) (end_of s σ k) (link_count s))

    -- a predecessor on k is over by k's end, so that only messages can come later
    module _ (declared : (l : ℕ) → l < link_count s → source_of s l < task_count s) where
      near-end : greatest (link_count s) (near_by s σ t k) ≤ end_of s σ k
      unfolding near_by end_of end_by
      near-end = greatest-le (link_count s) (near_by s σ t k) (end_of s σ k) (λ l h. go l h (comes s σ t l) (stands σ (source_of s l) k) refl)
        where
          go : (l : ℕ) → l < link_count s → (u v : Bool) → stands σ (source_of s l) k ≡ v → pick (both u v) (finish_of σ (source_of s l)) 0 ≤ end_of s σ k
          go l h true true q = omega (arith, term-le-greatest (task_count s) (end_by s σ k) (source_of s l) (declared l h), ap (λ x. pick x (finish_of σ (source_of s l)) 0) q)
          go l h true false q = omega arith
          go l h false v q = omega arith

      pub start-unpacked : unpacked s (elsewhere s σ t k) (reach_on s σ k) (end_of s σ k) (link_count s) ≡ start_on s σ t k
      unfolding start_on
      start-unpacked = omega (arith, near-end, unpacked-from s (elsewhere s σ t k) (reach_on s σ k) (end_of s σ k) (link_count s))
