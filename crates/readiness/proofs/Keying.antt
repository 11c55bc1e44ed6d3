-- The task with the greatest key is the one that goes first.
use Prim.Native.Nat.{ℕ, zero, suc, ◌+◌, ◌*◌, ◌-◌, ◌≤◌, ◌<◌}
use mathlib.Core.Bool.{Bool}
use mathlib.Core.Option.{some}
use mathlib.Core.Path.{◌≡◌, refl, ap, sym, ◌∙◌}
use mathlib.Core.List.{List}
use native.Mathlib.Omega.{arith}
use native.Mathlib.Decide.{dec_lt, ℕ_discrete}
use borrow.Author.Tests.{eq-eqb, ne_eqb, lt-ltb, le-ltb}
use lib.Dec.{eqb, ltb}
use lib.ListN.{get_or}
use Rattle.folds.specs.Folds.{pick, greatest, leading}
use Rattle.folds.proofs.Tests.{pick-le}
use Rattle.folds.proofs.Laws.{greatest-le, greatest-cong, greatest-skip}
use Rattle.readiness.specs.Keys.{key_by}
use Rattle.readiness.proofs.Blocks.{most-of-half}
use Rattle.readiness.proofs.Leading.{index-more, leader}
use Rattle.sheet.specs.Sheet.{Sheet, task_count, link_count, source_of, target_of, cost_of}
use Rattle.sheet.specs.Tables.{Ranged}
use Rattle.graph.specs.Graph.{level_by, level_within, level}
use Rattle.planner.specs.Schedule.{Schedule}
use Rattle.planner.specs.Placing.{ready, partly_ready, priority, ready_priority, ahead_by, first_ready, first_partly_ready}
use Rattle.planner.proofs.Choosing.{leading-some}
use Rattle.workspace.specs.Found.{found_of, Below}
use Rattle.workspace.specs.Found.{Found}
use Rattle.std.specs.Prelude.{Some, None}
use Rattle.readiness.specs.Keyed.{key_of, ready_key, partly_key, task_of, Keyed}

module _ (s : Sheet) (ranged : Ranged s) where
  -- a level is at most a work and a cost for each round
  within-le : (n t : ℕ) → t < task_count s → level_within n s t ≤ 131070 * n
  unfolding level_within level_by
  within-le zero t h = omega arith
  within-le (suc n) t h =
      omega (
        arith,
        ranged.works t h,
        greatest-le (link_count s) (level_by s (level_within n s) t) (65535 + 131070 * n)
            (λ l k. pick-le (eqb (source_of s l) t) (cost_of s l + level_within n s (target_of s l)) 0 (65535 + 131070 * n) (omega (arith, ranged.costs l k, within-le n (target_of s l) (ranged.target l k))) (omega arith)),
      )

  pub level-le : (t : ℕ) → t < task_count s → level s t ≤ 33553920
  unfolding level
  level-le t h = omega (arith, within-le (task_count s) t h, ranged.few_tasks)

  -- by the priorities f
  module _ (f : ℕ → ℕ) where
    -- with t behind j, t is ahead of j just if its key is greater
    ahead-key : (t j : ℕ) → j < t → t < task_count s → Dec (f j < f t) → Dec (f j ≡ f t) → Dec (level s j < level s t) → ahead_by s f t j ≡ ltb (key_of s (f j) j) (key_of s (f t) t)
    unfolding ahead_by key_of
    ahead-key t j h k a b c = go (level-le t k) (level-le j (omega arith)) ranged.few_tasks a b c
      where
        go : level s t ≤ 33553920 → level s j ≤ 33553920 → task_count s ≤ 256 → Dec (f j < f t) → Dec (f j ≡ f t) → Dec (level s j < level s t) → ahead_by s f t j ≡ ltb (key_of s (f j) j) (key_of s (f t) t)
        go u v m (yes a) b d = rw (lt-ltb (f j) (f t) a) (sym (lt-ltb (key_of s (f j) j) (key_of s (f t) t) (omega arith)))
        go u v m (no a) (yes b) (yes d) = rw (le-ltb (f j) (f t) (omega arith), eq-eqb (f j) (f t) b, lt-ltb (level s j) (level s t) d) (sym (lt-ltb (key_of s (f j) j) (key_of s (f t) t) (omega arith)))
        go u v m (no a) (yes b) (no d) = rw (le-ltb (f j) (f t) (omega arith), eq-eqb (f j) (f t) b, le-ltb (level s j) (level s t) (omega arith)) (sym (le-ltb (key_of s (f j) j) (key_of s (f t) t) (omega arith)))
        go u v m (no a) (no b) d = rw (le-ltb (f j) (f t) (omega arith), ne_eqb (f j) (f t) b) (sym (le-ltb (key_of s (f j) j) (key_of s (f t) t) (omega arith)))

    -- the task of a key
    task-key : (t : ℕ) → t < task_count s → task_of (key_of s (f t) t) ≡ some t
    unfolding key_of
    task-key t h = index-more 256 (key_of s (f t) t) (omega arith) ∙ ap some (omega (arith, ranged.few_tasks))

    key_more : (t : ℕ) → 0 < key_of s (f t) t
    unfolding key_of
    key_more t = omega arith

    -- of the tasks that p asks for, the leading one has the greatest key
    pub first-by-key : (p : ℕ → Bool) {g : ℕ} → g ≡ greatest (task_count s) (λ t. pick (p t) (key_of s (f t) t) 0) → task_of g ≡ leading (task_count s) p (ahead_by s f)
    first-by-key p =
        leader (task_count s) p (ahead_by s f) (λ t. key_of s (f t) t)
        (λ a b h k. ahead-key a b h k (dec_lt (f b) (f a)) (ℕ_discrete (f b) (f a)) (dec_lt (level s b) (level s a)))
        (λ t h. key_more t) task_of refl task-key

-- half a table of keys, whose greatest is that of its tasks' keys
module _ {s : Sheet} {σ : Schedule} {q : List ℕ} (ranged : Ranged s) (k : Keyed s σ q) where
  half : (a : ℕ) (f : ℕ → ℕ) → a < 2 → ((u : ℕ) → u < task_count s → get_or q (256 * a + u) 0 ≡ f u) → ((u : ℕ) → task_count s ≤ u → u < 256 → get_or q (256 * a + u) 0 ≡ 0)
      → greatest 16 (key_by q (512 + 16 * a)) ≡ greatest (task_count s) f
  unfolding key_by
  half a f h fresh blank =
      let n = task_count s in
      let e : 256 ≡ n + (256 - n) = omega (arith, ranged.few_tasks) in
      sym (most-of-half k.keys.blocked a h)
      ∙ ap (λ (x : ℕ). greatest x (key_by q (256 * a))) e
      ∙ greatest-skip (key_by q (256 * a)) n (256 - n) (λ i l m. blank i l (omega arith))
      ∙ greatest-cong n (key_by q (256 * a)) f fresh

  zero-add : (u : ℕ) → get_or q (256 * 0 + u) 0 ≡ get_or q u 0
  zero-add u = ap (λ (x : ℕ). get_or q x 0) (omega arith)

  below : (r : Found) (p : ℕ → Bool) (f : ℕ → ℕ) → found_of r ≡ leading (task_count s) p (ahead_by s f) → Below (task_count s) r
  below (Some i) p f e = (leading-some (task_count s) p (ahead_by s f) i (sym e)).0
  below None p f e = tt

  pub first-ready-is : (r : Found) {g : ℕ} → found_of r ≡ task_of g → g ≡ greatest 16 (key_by q 512) → (found_of r ≡ first_ready s σ) × Below (task_count s) r
  unfolding first_ready ready_key
  first-ready-is r e m =
      let d = e ∙ first-by-key s ranged (ready_priority s σ) (ready s σ) (m ∙ half 0 (ready_key s σ) (omega arith) (λ u h. zero-add u ∙ (k.keys.fresh u h).ready) (λ u h l. zero-add u ∙ (k.keys.blank u h l).ready)) in
      (d, below r (ready s σ) (ready_priority s σ) d)

  pub first-partly-is : (r : Found) {g : ℕ} → found_of r ≡ task_of g → g ≡ greatest 16 (key_by q 528) → (found_of r ≡ first_partly_ready s σ) × Below (task_count s) r
  unfolding first_partly_ready partly_key
  first-partly-is r e m =
      let d = e ∙ first-by-key s ranged (priority s σ) (partly_ready s σ) (m ∙ half 1 (partly_key s σ) (omega arith) (λ u h. (k.keys.fresh u h).partly) (λ u h l. (k.keys.blank u h l).partly)) in
      (d, below r (partly_ready s σ) (priority s σ) d)
