-- The end of peeling: where all tasks are taken off there is no circle and the levels are there; where one is left there is a circle.
use Prim.Native.Nat.{ℕ, zero, suc, ◌+◌, ◌≤◌, ◌<◌}
use mathlib.Core.Option.{none}
use mathlib.Core.Path.{◌≡◌, ap, sym, ◌∙◌, subst}
use mathlib.Core.List.{List}
use native.Mathlib.Omega.{arith}
use native.Mathlib.Decide.{ℕ_discrete}
use borrow.Author.Tests.{lt-ltb}
use Rattle.workspace.specs.Area.{levels_at, opened_at}
use Rattle.folds.specs.Folds.{sum, greatest}
use Rattle.folds.proofs.Laws.{sum_zeros, sum_mono}
use Rattle.sheet.specs.Sheet.{Sheet, task_count, link_count, work_of, source_of, target_of}
use Rattle.sheet.specs.Tables.{sheet_in, Loaded}
use Rattle.graph.specs.Graph.{circle, level_by}
use Rattle.adjacency.specs.Frames.{Only}
use Rattle.adjacency.specs.Chains.{Rechained, Chained}
use Rattle.adjacency.specs.declared.End.TheVariants.{Source, Target}
use Rattle.adjacency.proofs.Frames.{only-trans}
use Rattle.adjacency.proofs.Walks.{chained-under}
use Rattle.topological_order.specs.Words.{Held, Outside, place_in, in_queue, done_by}
use Rattle.topological_order.specs.Peeling.{due_by, level_in, Peeled}
use Rattle.topological_order.specs.Steps.{Ordered, AllTaken}
use Rattle.workspace.specs.Found.{found_of}
use Rattle.levelling.specs.Found.{Levelled, LevelsAre}
use Rattle.workspace.specs.Found.{Found}
use Rattle.std.specs.Prelude.{None}
use Rattle.graph.proofs.Reaches.{Declared}
use Rattle.graph.proofs.Ranks.{Ranked, Solved, ranked-none, rank_of, none-ranked, level-is}
use Rattle.topological_order.proofs.Frames.{only_kept, kept-held, kept-sheet, outside-held, outside-own, loaded-declared, outside-chained}
use Rattle.topological_order.proofs.Pushes.{in-queue, queued-all, queued-few}
use Rattle.topological_order.proofs.Lights.{due-lit, due-other}
use Rattle.topological_order.proofs.Turns.{chain-here}

-- all are taken off
module _ (s : Sheet) (k : ℕ) (w : List ℕ) (declared : Declared s) (a : AllTaken s k w) (all : k ≡ task_count s) where
  abbrev p : Peeled s k k 0 0 w
  p = a.peeled

  placed : (t : ℕ) → t < task_count s → place_in w t < 256
  placed = queued-all p.peel.queued all

  ranked : Ranked s (place_in w)
  ranked =
      record {
        falls = λ l h. p.peel.falls l h (placed (source_of s l) (declared.source l h));
        few = λ t h. let q = p.peel.queued.few t h (placed t h) in omega arith;
      }

  solved : Solved s (level_in w)
  solved =
      record {
        is = λ t h.
            subst (λ (x : ℕ). level_in w x ≡ work_of s x + greatest (link_count s) (level_by s (level_in w) x)) (p.peel.queued.back t h (placed t h)) (a.levels.level (place_in w t) (p.peel.queued.few t h (placed t h)));
      }

  pub peeled-free : circle s ≡ none
  peeled-free = ranked-none s (place_in w) ranked

  pub peeled-levels : Chained Target s w → Levelled s w
  unfolding level_in
  peeled-levels inward = record { inward = inward; levels = λ t h. sym (level-is s (place_in w) (level_in w) declared.target ranked solved t h) }

sum_ones : (n : ℕ) → n ≤ sum n (λ t. 1)
unfolding sum
sum_ones zero = omega arith
sum_ones (suc n) = omega (arith, sum_ones n)

-- one is left: were there no circle, the left one of lowest rank would have no link to another that is left
module _ (s : Sheet) (k : ℕ) (w : List ℕ) (declared : Declared s) (p : Peeled s k k 0 0 w) (free : circle s ≡ none) where
  no-link : (t l : ℕ) → l < link_count s → (source_of s l ≡ t → place_in w (target_of s l) < 256) → due_by s (done_by s k w) t l ≡ 0
  unfolding done_by
  no-link t l h g = go (ℕ_discrete (source_of s l) t)
    where
      go : Dec (source_of s l ≡ t) → due_by s (done_by s k w) t l ≡ 0
      go (yes e) = due-lit s (done_by s k w) t l (lt-ltb (place_in w (target_of s l)) k (p.peel.queued.few (target_of s l) (declared.target l h) (g e)))
      go (no e) = due-other s (done_by s k w) t l e

  all_placed : (r t : ℕ) → t < task_count s → rank_of s t < r → place_in w t < 256
  all_placed zero t h g = absurd (omega arith)
  all_placed (suc r) t h g =
      let ranks = none-ranked s declared free in
      p.peel.waits t h (λ a b. absurd (omega arith))
      (p.peel.degree t h ∙ sum_zeros (link_count s) (due_by s (done_by s k w) t) (λ l q. no-link t l q (λ e.
      let x : rank_of s (source_of s l) ≡ rank_of s t = ap (rank_of s) e in
      all_placed r (target_of s l) (declared.target l q) (omega (arith, ranks.falls l q)))))

  pub peeled-all : k ≡ task_count s
  peeled-all =
      let ranks = none-ranked s declared free in
      let low : sum (task_count s) (λ t. 1) ≤ sum (task_count s) (in_queue w) =
      sum_mono (task_count s) (λ t. 1) (in_queue w) (λ t h. omega (arith, in-queue w t (all_placed (task_count s) t h (ranks.few t h)))) in
      omega (arith, p.peel.queued.count, queued-few p.peel.queued, sum_ones (task_count s))

-- without a circle the steps of the loop set every task's level
pub ordered-all : {s : Sheet} {k : ℕ} {w : List ℕ} → Declared s → AllTaken s k w → Ordered s k w → circle s ≡ none → Ordered s (task_count s) w
ordered-all {s} {k} {w} declared a o free = subst (λ (n : ℕ). Ordered s n w) (peeled-all s k w declared a.peeled free) o

-- the whole, from what its parts say: both ends are chained, the links into tasks first
pub chains-stand : {w w₁ w₂ : List ℕ} → Held w → Rechained Target w w₁ × Chained Target (sheet_in w) w₁ → Rechained Source w₁ w₂ × Chained Source (sheet_in w₁) w₂
    → Only levels_at opened_at w w₂ × (Chained Source (sheet_in w) w₂ × Chained Target (sheet_in w) w₂)
chains-stand {w} {w₁} {w₂} h d e = (
  only-trans (only_kept d.0.only) (only_kept e.0.only),
  (subst (λ (s : Sheet). Chained Source s w₂) (kept-sheet h (only_kept d.0.only)) e.1, chained-under e.0 d.1),
)

pub source-asks : {w w₁ : List ℕ} → Held w → Rechained Target w w₁ × Chained Target (sheet_in w) w₁ → Loaded w₁
source-asks h d = (kept-held h (only_kept d.0.only)).loaded

pub peel-asks : {w w₁ : List ℕ} → Held w → Only levels_at opened_at w w₁ × (Chained Source (sheet_in w) w₁ × Chained Target (sheet_in w) w₁) → Held w₁ × (Chained Source (sheet_in w₁) w₁ × Chained Target (sheet_in w₁) w₁)
peel-asks {w} {w₁} h d = (kept-held h d.0, subst (λ (s : Sheet). Chained Source s w₁ × Chained Target s w₁) (sym (kept-sheet h d.0)) d.1)

pub find-goes : {w w₁ w₂ : List ℕ} → Held w → Only levels_at opened_at w w₁ × (Chained Source (sheet_in w) w₁ × Chained Target (sheet_in w) w₁) → Outside w₁ w₂ → Held w₂ × Chained Target (sheet_in w₂) w₂
find-goes {w} {w₁} {w₂} h d b =
    let q = peel-asks h d in
    (outside-held q.0 b, outside-own (λ (s : Sheet). Chained Target s w₂) q.0 b (chain-here q.0 q.1.1 b))

pub levels-free : {w w₁ w₂ : List ℕ} {k n : ℕ} → Held w → Only levels_at opened_at w w₁ × (Chained Source (sheet_in w) w₁ × Chained Target (sheet_in w) w₁)
    → Outside w₁ w₂ → AllTaken (sheet_in w₁) k w₂ → n ≡ task_count (sheet_in w₂) → k ≡ n → LevelsAre w w₂ None
levels-free {w} {w₁} {w₂} {k} {n} h c b d e q =
    let kept : Only levels_at opened_at w w₂ = only-trans c.0 b.kept in
    let p : AllTaken (sheet_in w) k w₂ = subst (λ (s : Sheet). AllTaken s k w₂) (kept-sheet h c.0) d in
    let all : k ≡ task_count (sheet_in w) = q ∙ e ∙ ap task_count (kept-sheet h kept) in
    record {
      answer = sym (peeled-free (sheet_in w) k w₂ (loaded-declared h.loaded) p all);
      levels = λ f. peeled-levels (sheet_in w) k w₂ (loaded-declared h.loaded) p all (outside-chained (sheet_in w) w₁ w₂ h.few_tasks h.few_links b c.1.1);
      kept = kept;
    }

pub levels-found : {w w₁ w₂ w₃ : List ℕ} {k n : ℕ} {r : Found} → Held w → Only levels_at opened_at w w₁ → Outside w₁ w₂ → AllTaken (sheet_in w₁) k w₂ → n ≡ task_count (sheet_in w₂) → (k ≡ n → ⊥)
    → Outside w₂ w₃ × (found_of r ≡ circle (sheet_in w₂)) → LevelsAre w w₃ r
levels-found {w} {w₁} {w₂} {w₃} {k} {n} {r} h o b d e q t =
    let kept : Only levels_at opened_at w w₂ = only-trans o b.kept in
    let same₂ : sheet_in w₂ ≡ sheet_in w = kept-sheet h kept in
    let p : AllTaken (sheet_in w) k w₂ = subst (λ (s : Sheet). AllTaken s k w₂) (kept-sheet h o) d in
    record {
      answer = t.1 ∙ ap circle same₂;
      levels = λ f. absurd (q (peeled-all (sheet_in w) k w₂ (loaded-declared h.loaded) p.peeled f ∙ sym (ap task_count same₂) ∙ sym e));
      kept = only-trans kept t.0.kept;
    }
