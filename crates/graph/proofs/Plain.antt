-- Levels and circles are what their words say, over all paths: `level` is the greatest sum, `circle` the lowest task that leads back to itself.
use Prim.Native.Nat.{ℕ, zero, suc, ◌+◌, ◌≤◌, ◌<◌}
use native.Mathlib.Omega.{arith}
use native.Mathlib.Decide.{dec_lt}
use mathlib.Core.Bool.{Bool, true, false, true≢false}
use mathlib.Core.Option.{Option, none, some}
use mathlib.Core.Path.{◌≡◌, refl, sym, ◌∙◌}
use mathlib.Core.Logic.{◌≢◌, ◌⊎◌, inl, inr}
use lib.Dec.{eqb}
use borrow.Author.Tests.{eqb-true, eqb-false, eq-eqb, ne_eqb}
use Rattle.folds.specs.Folds.{greatest, first}
use Rattle.folds.proofs.Laws.{term-le-greatest, greatest-some, greatest-le, first_some, first-none, none_first, first-lowest, first_found}
use Rattle.sheet.specs.Sheet.{Sheet, task_count, link_count, work_of, source_of, target_of, cost_of}
use Rattle.graph.specs.Graph.{on_circle, circle, level_by, level_within, level}
use Rattle.graph.specs.Paths.{Path, here, along, steps, weight, Last, LevelIs, Circle, LowestOnCircle}
use Rattle.graph.proofs.Reaches.{Declared, path-begins, reaches-path, path-reaches-all}
use Rattle.graph.proofs.Ranks.{path-falls, ranked-falling, rank_of, none-ranked}

module _ (s : Sheet) where
  -- a link out of t that gives it the most, where there is a link
  abbrev Best : (ℕ → ℕ) → ℕ → Type 0
  Best of t = (l : ℕ) × (l < link_count s) × (source_of s l ≡ t) × (cost_of s l + of (target_of s l) ≡ greatest (link_count s) (level_by s of t))

  term-own : (of : ℕ → ℕ) (t l : ℕ) → source_of s l ≡ t → level_by s of t l ≡ cost_of s l + of (target_of s l)
  unfolding level_by
  term-own of t l e = rw (eq-eqb (source_of s l) t e)

  term-other : (of : ℕ → ℕ) (t l : ℕ) → source_of s l ≢ t → level_by s of t l ≡ 0
  unfolding level_by
  term-other of t l e = rw (ne_eqb (source_of s l) t e)

  best_of : (of : ℕ → ℕ) (t i : ℕ) → i < link_count s → source_of s i ≡ t → Best of t
  best_of of t i h e = go (dec_lt 0 (greatest (link_count s) (level_by s of t)))
    where
      go : Dec (0 < greatest (link_count s) (level_by s of t)) → Best of t
      go (yes k) =
          let m = greatest-some (link_count s) (level_by s of t) k in
          own m.0 m.1 m.2 (eqb (source_of s m.0) t) refl
        where
          own : (j : ℕ) → j < link_count s → level_by s of t j ≡ greatest (link_count s) (level_by s of t) → (b : Bool) → eqb (source_of s j) t ≡ b → Best of t
          own j l q true c = let p = eqb-true (source_of s j) t c in (j, l, p, sym (term-own of t j p) ∙ q)
          own j l q false c = absurd (omega (arith, term-other of t j (eqb-false (source_of s j) t c)))
      go (no k) = (i, h, e, omega (arith, term-own of t i e, term-le-greatest (link_count s) (level_by s of t) i h))

  -- t has no successor, or a link out of it gives it the most
  best : (of : ℕ → ℕ) (t : ℕ) → Last s t ⊎ Best of t
  best of t = go (first (link_count s) out) refl
    where
      out : ℕ → Bool
      out l = eqb (source_of s l) t

      go : (o : Option ℕ) → first (link_count s) out ≡ o → Last s t ⊎ Best of t
      go none q = inl (λ l h. eqb-false (source_of s l) t (first-none (link_count s) out q l h))
      go (some l) q = let m = first_some (link_count s) out l q in inr (best_of of t l m.0 (eqb-true (source_of s l) t m.1))

  -- where every path from t has fewer than n links
  within-plain : (n t : ℕ) → ((u : ℕ) (p : Path s t u) → steps p < n) → LevelIs s t (level_within n s t)
  unfolding level_within
  within-plain zero t short = absurd (omega (arith, short t here))
  within-plain (suc n) t short =
      by (λ l h e. within-plain n (target_of s l) (λ u q. omega (arith, short u (along l h e q)))) (best (level_within n s) t)
    where
      Behind : Type 0
      Behind = (l : ℕ) → l < link_count s → source_of s l ≡ t → LevelIs s (target_of s l) (level_within n s (target_of s l))

      most : Behind → (u : ℕ) (p : Path s t u) → weight p ≤ work_of s t + greatest (link_count s) (level_by s (level_within n s) t)
      most behind u here = omega arith
      most behind u (along l h e q) =
          omega (arith, (behind l h e).most u q, term-own (level_within n s) t l e, term-le-greatest (link_count s) (level_by s (level_within n s) t) l h)

      by : Behind → Last s t ⊎ Best (level_within n s) t → LevelIs s t (work_of s t + greatest (link_count s) (level_by s (level_within n s) t))
      by behind (inl last) =
          let none : greatest (link_count s) (level_by s (level_within n s) t) ≤ 0 =
          greatest-le (link_count s) (level_by s (level_within n s) t) 0 (λ l h. omega (arith, term-other (level_within n s) t l (last l h))) in
          record { end = t; last = last; path = here; sum = omega arith; most = most behind }
      by behind (inr m) =
          let r = behind m.0 m.1 m.2 in
          record { end = r.end; last = r.last; path = along m.0 m.1 m.2 r.path; sum = omega (arith, r.sum, m.3); most = most behind }

-- the level of a task is the greatest sum on a path from it
pub level-plain : (s : Sheet) → Declared s → circle s ≡ none → (t : ℕ) → t < task_count s → LevelIs s t (level s t)
unfolding level
level-plain s declared free t h =
    let r = none-ranked s declared free in
    within-plain s (task_count s) t (λ u p. omega (arith, path-falls s (task_count s) (rank_of s) (ranked-falling r (task_count s)) p (r.few t h), r.few t h))

-- a task is on a circle exactly if a path of any length leads from it back to it
module _ (s : Sheet) (declared : Declared s) where
  circle-on : (t : ℕ) → Circle s t → on_circle s t ≡ true
  unfolding on_circle
  circle-on t c = path-reaches-all s declared c.path c.some

  on-circle : (t : ℕ) → on_circle s t ≡ true → Circle s t
  unfolding on_circle
  on-circle t e = let m = reaches-path s (task_count s) t t e in record { path = m.0; some = m.1 }

  off-circle : (t : ℕ) → on_circle s t ≡ false → Circle s t → ⊥
  off-circle t e c = true≢false (sym (circle-on t c) ∙ e)

  not_on : (t : ℕ) → (Circle s t → ⊥) → on_circle s t ≡ false
  not_on t h = go (on_circle s t) refl
    where
      go : (b : Bool) → on_circle s t ≡ b → on_circle s t ≡ false
      go true e = absurd (h (on-circle t e))
      go false e = e

  -- a task on a circle is declared
  circle-task : (t : ℕ) → Circle s t → t < task_count s
  circle-task t c = path-begins s declared c.path c.some

  pub circle-lowest : (t : ℕ) → circle s ≡ some t → LowestOnCircle s t
  unfolding circle
  circle-lowest t e =
      let m = first_some (task_count s) (on_circle s) t e in
      record { task = m.0; circle = on-circle t m.1; lowest = λ u l. off-circle u (first-lowest (task_count s) (on_circle s) t e u l) }

  pub lowest-circle : (t : ℕ) → LowestOnCircle s t → circle s ≡ some t
  unfolding circle
  lowest-circle t c = first_found (task_count s) (on_circle s) t (λ u l. not_on u (c.lowest u l)) (circle-on t c.circle) c.task

  pub circle-none : circle s ≡ none → (t : ℕ) → Circle s t → ⊥
  unfolding circle
  circle-none e t c = off-circle t (first-none (task_count s) (on_circle s) e t (circle-task t c)) c

  pub none-circle : ((t : ℕ) → Circle s t → ⊥) → circle s ≡ none
  unfolding circle
  none-circle h = none_first (task_count s) (on_circle s) (λ t l. not_on t (h t))
