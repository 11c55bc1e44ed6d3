-- The level of one task from those of its successors, and the levels of the first tasks of the queue.
use Prim.Native.Nat.{ℕ, ◌+◌, ◌*◌, ◌≤◌, ◌<◌}
use mathlib.Core.Path.{◌≡◌, refl, ap, ap₂, sym, ◌∙◌, subst}
use mathlib.Core.Logic.{◌≢◌}
use mathlib.Core.List.{List}
use native.Mathlib.Omega.{arith}
use native.Mathlib.Decide.{ℕ_discrete}
use lib.ListN.{length, get_or, set}
use lib.Seq.{get_or-set_same, get_or-set_other}
use Rattle.workspace.specs.Area.{fixed, levels_at, queue_at}
use Rattle.folds.specs.Folds.{greatest}
use Rattle.folds.proofs.Laws.{greatest-le}
use Rattle.sheet.specs.Sheet.{Sheet, task_count, link_count, work_of, source_of, target_of, cost_of}
use Rattle.graph.specs.Graph.{level_by}
use Rattle.graph.proofs.Reaches.{Declared}
use Rattle.topological_order.specs.Words.{Grown, place_in, task_at}
use Rattle.topological_order.specs.Peeling.{level_in, Peeled, FirstLevels, Moderate}
use Rattle.topological_order.specs.Steps.{Before, LevelSet}
use Rattle.topological_order.proofs.Pushes.{queued-few}
use Rattle.topological_order.proofs.Lights.{level-own, level-other, level-same}

-- a level by the word that holds it
pub level-word : (w : List ℕ) (t : ℕ) → level_in w t ≡ get_or w (levels_at + t) 0
unfolding level_in
level-word w t = refl

-- one link out of v more
pub beyond-own : (s : Sheet) (w : List ℕ) (v l : ℕ) {t x c : ℕ} → source_of s l ≡ v → t ≡ target_of s l → x ≡ get_or w (levels_at + t) 0 → c ≡ cost_of s l → c + x ≡ level_by s (level_in w) v l
beyond-own s w v l e et ex ec =
    ap₂ ◌+◌ ec (ex ∙ sym (level-word w _) ∙ ap (level_in w) et) ∙ sym (level-own s (level_in w) v l e)

-- the greatest over the links out of v, where the successors' levels are at most b
pub beyond-low : (s : Sheet) (w : List ℕ) (v b : ℕ) → ((l : ℕ) → l < link_count s → cost_of s l ≤ 65535) → ((l : ℕ) → l < link_count s → source_of s l ≡ v → level_in w (target_of s l) ≤ b)
    → greatest (link_count s) (level_by s (level_in w) v) ≤ 65535 + b
beyond-low s w v b cheap low = greatest-le (link_count s) (level_by s (level_in w) v) (65535 + b) (λ l h. go l h (ℕ_discrete (source_of s l) v))
  where
    go : (l : ℕ) → l < link_count s → Dec (source_of s l ≡ v) → level_by s (level_in w) v l ≤ 65535 + b
    go l h (yes e) = omega (arith, level-own s (level_in w) v l e, cheap l h, low l h e)
    go l h (no e) = omega (arith, level-other s (level_in w) v l e)

-- step i: the level of v, the queue's task i, is set to y
module _ (s : Sheet) (w : List ℕ) (declared : Declared s) (few : task_count s ≤ 256) (long : fixed ≤ length w) (i k : ℕ) (p : Peeled s i k 0 0 w) (left : i < k) (f : FirstLevels s i w)
    (cheap : (l : ℕ) → l < link_count s → cost_of s l ≤ 65535) where
  abbrev v : ℕ
  v = task_at w i

  v-in : v < task_count s
  v-in = p.peel.queued.task i left

  few-k : k ≤ 256
  few-k = omega (arith, queued-few p.peel.queued)

  -- a task of the queue has one place
  place_at_lem : (j : ℕ) → j < k → place_in w (task_at w j) ≡ j
  place_at_lem j h = p.peel.queued.place j h

  -- the successors of the task at place j stand before it
  earlier : (j l : ℕ) → j < k → l < link_count s → source_of s l ≡ task_at w j → place_in w (target_of s l) < j
  earlier j l h g e =
      let a : place_in w (source_of s l) ≡ j = ap (place_in w) e ∙ place_at_lem j h in
      let b = few-k in
      omega (arith, p.peel.falls l g (omega arith))

  before : (l : ℕ) → l < link_count s → source_of s l ≡ task_at w i → Before w i (target_of s l)
  before l h e =
      let a = earlier i l left h e in
      let b = few-k in
      record { step = place_in w (target_of s l); early = a; is = p.peel.queued.back (target_of s l) (declared.target l h) (omega arith) }

  not-before : Before w i (task_at w i) → ⊥
  not-before b =
      let a = b.early in
      let x : place_in w (task_at w b.step) ≡ place_in w (task_at w i) = ap (place_in w) b.is in
      absurd (omega (arith, place_at_lem b.step (omega arith), place_at_lem i left))

  low : (l : ℕ) → l < link_count s → source_of s l ≡ task_at w i → level_in w (target_of s l) ≤ 131070 * i
  low l h e = let b = before l h e in rw (sym b.is) (f.bounded b.step b.early)

  pub step-moderate : Moderate s (task_at w i) w
  step-moderate = let b = few-k in record { low = λ l h e. let x = low l h e in omega arith }

  module _ (y : ℕ) (short : work_of s (task_at w i) ≤ 65535) (y_is : y ≡ work_of s (task_at w i) + greatest (link_count s) (level_by s (level_in w) (task_at w i))) where
    abbrev set_words : List ℕ
    set_words = set w (levels_at + task_at w i) y

    level-here : level_in set_words (task_at w i) ≡ y
    level-here = let h = v-in in level-word set_words (task_at w i) ∙ get_or-set_same w (levels_at + task_at w i) y 0 (omega arith)

    level-else : (t : ℕ) → t ≢ task_at w i → level_in set_words t ≡ level_in w t
    level-else t e = level-word set_words t ∙ get_or-set_other w (levels_at + task_at w i) (levels_at + t) y 0 (λ x. e (omega arith)) ∙ sym (level-word w t)

    queue-same : (j : ℕ) → task_at set_words j ≡ task_at w j
    queue-same j = let h = v-in in get_or-set_other w (levels_at + task_at w i) (queue_at + j) y 0 (omega arith)

    -- the formula of a task up to place i is the same before and after, since v is none of its successors
    formula-same : (j : ℕ) → j < i + 1 → greatest (link_count s) (level_by s (level_in w) (task_at w j)) ≡ greatest (link_count s) (level_by s (level_in set_words) (task_at w j))
    formula-same j h = level-same s (level_in w) (level_in set_words) (task_at w j) (λ l g e. level-else (target_of s l) (λ q. other l g e q))
      where
        other : (l : ℕ) → l < link_count s → source_of s l ≡ task_at w j → target_of s l ≡ task_at w i → ⊥
        other l g e q = let a : place_in w (target_of s l) ≡ place_in w (task_at w i) = ap (place_in w) q in absurd (omega (arith, earlier j l (omega arith) g e, place_at_lem i left))

    level-at : (j : ℕ) → j < i + 1 → Dec (j ≡ i) → level_in set_words (task_at w j) ≡ work_of s (task_at w j) + greatest (link_count s) (level_by s (level_in set_words) (task_at w j))
    level-at j h (yes e) = subst (λ (x : ℕ). level_in set_words (task_at w x) ≡ work_of s (task_at w x) + greatest (link_count s) (level_by s (level_in set_words) (task_at w x))) (sym e)
        (level-here ∙ y_is ∙ ap (λ (x : ℕ). work_of s (task_at w i) + x) (formula-same i (omega arith)))
    level-at j h (no e) =
        level-else (task_at w j) (λ q. let a : place_in w (task_at w j) ≡ place_in w (task_at w i) = ap (place_in w) q in e (omega (arith, place_at_lem j (omega arith), place_at_lem i left)))
        ∙ f.level j (omega arith) ∙ ap (λ (x : ℕ). work_of s (task_at w j) + x) (formula-same j h)

    bound_at : (j : ℕ) → j < i + 1 → Dec (j ≡ i) → level_in set_words (task_at w j) ≤ 131070 * (i + 1)
    bound_at j h (yes e) = subst (λ (x : ℕ). level_in set_words (task_at w x) ≤ 131070 * (i + 1)) (sym e) (rw level-here (omega (arith, beyond-low s w (task_at w i) (131070 * i) cheap low)))
    bound_at j h (no e) = rw (level-else (task_at w j) (λ q. let a : place_in w (task_at w j) ≡ place_in w (task_at w i) = ap (place_in w) q in e (omega (arith, place_at_lem j (omega arith), place_at_lem i left)))) (omega (arith, f.bounded j (omega arith)))

    -- after the walk, which writes marks and the queue alone
    module _ (r : ℕ) (w' : List ℕ) (g : Grown k r (set w (levels_at + task_at w i) y) w') where
      level-kept : (t : ℕ) → t < task_count s → level_in w' t ≡ level_in set_words t
      level-kept t h = level-word w' t ∙ g.only.low (levels_at + t) (omega arith) ∙ sym (level-word set_words t)

      queue-kept : (j : ℕ) → j < k → task_at w' j ≡ task_at w j
      queue-kept j h = g.queue j h ∙ queue-same j

      formula-kept : (t : ℕ) → greatest (link_count s) (level_by s (level_in set_words) t) ≡ greatest (link_count s) (level_by s (level_in w') t)
      formula-kept t = level-same s (level_in set_words) (level_in w') t (λ l h e. level-kept (target_of s l) (declared.target l h))

      pub first_more : FirstLevels s (i + 1) w'
      first_more =
          record {
            level = λ j h. rw (queue-kept j (omega arith)) (level-kept (task_at w j) (p.peel.queued.task j (omega arith)) ∙ level-at j h (ℕ_discrete j i) ∙ ap (λ (x : ℕ). work_of s (task_at w j) + x) (formula-kept (task_at w j)));
            bounded = λ j h. rw (queue-kept j (omega arith), level-kept (task_at w j) (p.peel.queued.task j (omega arith))) (bound_at j h (ℕ_discrete j i));
          }

      pub level-set : LevelSet s i w w'
      level-set =
          record {
            task = v-in;
            new = not-before;
            successors = before;
            value = level-kept (task_at w i) v-in ∙ level-here ∙ y_is;
            one = λ t h e. level-kept t h ∙ level-else t e;
            order = λ j h. queue-kept j (omega arith);
          }
