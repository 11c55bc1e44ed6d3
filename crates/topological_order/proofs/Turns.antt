-- The laws of walking and of the steps for the sheet that stands in a work area, as the code cites them.
use Prim.Native.Nat.{ℕ, ◌+◌, ◌*◌, ◌-◌, ◌≤◌, ◌<◌}
use mathlib.Core.Path.{◌≡◌, refl, ap, sym, ◌∙◌, subst}
use mathlib.Core.List.{List}
use native.Mathlib.Omega.{arith}
use lib.ListN.{get_or, set}
use Rattle.workspace.specs.Area.{levels_at, marks_at}
use Rattle.folds.specs.Folds.{greatest}
use Rattle.sheet.specs.Sheet.{Sheet, task_count, link_count, work_of, source_of, target_of, cost_of}
use Rattle.sheet.specs.Tables.{sheet_in, Loaded}
use Rattle.sheet.proofs.Rows.{ranged}
use Rattle.graph.specs.Graph.{level_by}
use Rattle.adjacency.specs.Chains.{head_of, next_of, Chained}
use Rattle.adjacency.specs.declared.End.{End}
use Rattle.adjacency.specs.declared.End.TheVariants.{Source, Target}
use Rattle.topological_order.specs.Words.{Held, Outside, Grown, place_in, task_at, pushed}
use Rattle.topological_order.specs.Peeling.{level_in, Peeled, Walking, FirstLevels, Moderate, Counted, Filled}
use Rattle.topological_order.specs.Steps.{LevelSet, Steps, here, then, InThesisOrder, Ordered, Taken, AllTaken}
use Rattle.topological_order.proofs.Frames.{loaded-declared, outside-sheet, outside-held, outside-level, outside-none, outside_trans, outside-chained, outside-own, outside-from, grown-none, grown-trans, grown-outside}
use Rattle.topological_order.proofs.Pushes.{queued-few}
use Rattle.topological_order.proofs.Walks as walks
use Rattle.topological_order.proofs.Levels as levels
use Rattle.topological_order.proofs.Orders.{in-thesis-order}

module _ (w : List ℕ) (h : Held w) (k v l : ℕ) (l-in : l < link_count (sheet_in w)) (to : target_of (sheet_in w) l ≡ v) (p : Walking (sheet_in w) (place_in w v) k l v 0 0 w) where
  pub visit-degree : {u d : ℕ} → u ≡ source_of (sheet_in w) l → d ≡ get_or w (marks_at + u) 0 → 1 ≤ d
  visit-degree = walks.visit-degree (sheet_in w) w (loaded-declared h.loaded) h.few_tasks h.long (place_in w v) k l v p l-in to

  pub visit-room : k < 256
  visit-room = walks.visit-room (sheet_in w) w (loaded-declared h.loaded) h.few_tasks h.long (place_in w v) k l v p l-in to

  module _ {u d e : ℕ} (eu : u ≡ source_of (sheet_in w) l) (ed : d ≡ get_or w (marks_at + u) 0) (ee : e ≡ d - 1) where
    pub visit-stays : (w' : List ℕ) → w' ≡ set w (marks_at + u) e → (d ≡ 1 → ⊥) → Grown k k w w' × Walking (sheet_in w) (place_in w v) k (l + 1) v 0 0 w'
    visit-stays = walks.visit-stays (sheet_in w) w (loaded-declared h.loaded) h.few_tasks h.long (place_in w v) k l v p l-in to eu ed ee

    pub visit-goes : (w' w'' : List ℕ) → w' ≡ set w (marks_at + u) e → w'' ≡ pushed w' k u → d ≡ 1 → Grown k (k + 1) w w'' × Walking (sheet_in w) (place_in w v) (k + 1) (l + 1) v 0 0 w''
    visit-goes = walks.visit-goes (sheet_in w) w (loaded-declared h.loaded) h.few_tasks h.long (place_in w v) k l v p l-in to eu ed ee

-- the walk, seen from where it began, with k₀ tasks in the queue
pub record WalkTo (w₀ : List ℕ) (k₀ v k l : ℕ) (w : List ℕ) : Type 0 where
  pub grown : Grown k₀ k w₀ w
  pub here : l ≤ link_count (sheet_in w₀)
  pub own : l < link_count (sheet_in w₀) → target_of (sheet_in w₀) l ≡ v
  pub walking : Walking (sheet_in w₀) (place_in w₀ v) k l v 0 0 w

pub walk-starts : (w : List ℕ) (v k r : ℕ) → Held w → Chained Target (sheet_in w) w → Walking (sheet_in w) (place_in w v) k 0 v 0 0 w → r ≡ head_of Target w v → WalkTo w k v k r w
walk-starts w v k r h d p e =
    let q = walks.walk_begins (sheet_in w) w (loaded-declared h.loaded) h.few_tasks h.long (place_in w v) k v r d p e in
    record { grown = grown-none k w; here = q.0; own = q.1; walking = q.2 }

-- what a turn asks
pub walk-asks : {w₀ w : List ℕ} {k₀ v k l : ℕ} → Held w₀ → WalkTo w₀ k₀ v k l w → l < link_count (sheet_in w₀)
    → Held w × (((l < link_count (sheet_in w)) × (target_of (sheet_in w) l ≡ v)) × Walking (sheet_in w) (place_in w v) k l v 0 0 w)
walk-asks {w₀} {w} {k₀} {v} {k} {l} h p g =
    let b : Outside w₀ w = grown-outside p.grown in
    let e : sheet_in w ≡ sheet_in w₀ = outside-sheet h b in
    let here : place_in w v ≡ place_in w₀ v = p.walking.here in (
      outside-held h b,
      (
        subst (λ (s : Sheet). (l < link_count s) × (target_of s l ≡ v)) (sym e) (g, p.own g),
        subst (λ (s : Sheet). Walking s (place_in w v) k l v 0 0 w) (sym e) (subst (λ (j : ℕ). Walking (sheet_in w₀) j k l v 0 0 w) (sym here) p.walking),
      ),
    )

-- the chains are as they were
pub next-asks : {w₀ w : List ℕ} {l : ℕ} → Held w₀ → Chained Target (sheet_in w₀) w₀ → Outside w₀ w → l < link_count (sheet_in w₀) → Loaded w × (Chained Target (sheet_in w) w × (l < link_count (sheet_in w)))
next-asks {w₀} {w} {l} h d b g =
    let e : sheet_in w ≡ sheet_in w₀ = outside-sheet h b in
    ((outside-held h b).loaded, (subst (λ (s : Sheet). Chained Target s w) (sym e) (outside-chained (sheet_in w₀) w₀ w h.few_tasks h.few_links b d), rw e g))

pub chain-here : {e : End} {w₀ w : List ℕ} → Held w₀ → Chained e (sheet_in w₀) w₀ → Outside w₀ w → Chained e (sheet_in w₀) w
chain-here {e} {w₀} {w} h d b = outside-chained (sheet_in w₀) w₀ w h.few_tasks h.few_links b d

-- a turn, and on to the next link
pub walk-turns : {w₀ w w' : List ℕ} {k₀ v k k' l r : ℕ} → Held w₀ → Chained Target (sheet_in w₀) w₀ → WalkTo w₀ k₀ v k l w → l < link_count (sheet_in w₀)
    → Grown k k' w w' × Walking (sheet_in w) (place_in w v) k' (l + 1) v 0 0 w' → r ≡ next_of Target w' l → WalkTo w₀ k₀ v k' r w'
walk-turns {w₀} {w} {w'} {k₀} {v} {k} {k'} {l} {r} h d p g t e =
    let more : Grown k₀ k' w₀ w' = grown-trans p.grown t.0 in
    let b : Outside w₀ w' = grown-outside more in
    let h' = outside-held h b in
    let q : Walking (sheet_in w₀) (place_in w₀ v) k' (l + 1) v 0 0 w' =
    subst (λ (j : ℕ). Walking (sheet_in w₀) j k' (l + 1) v 0 0 w') p.walking.here (subst (λ (s : Sheet). Walking s (place_in w v) k' (l + 1) v 0 0 w') (outside-sheet h (grown-outside p.grown)) t.1) in
    let m = walks.walk_more (sheet_in w₀) w' (loaded-declared h.loaded) h.few_tasks h'.long (place_in w₀ v) k' v l r (chain-here h d b) q g (p.own g) e in
    record { grown = more; here = m.0; own = m.1; walking = m.2 }

-- the links left become fewer
pub walk-less : {w₀ w w' : List ℕ} {k₀ v k l r : ℕ} → Held w₀ → Chained Target (sheet_in w₀) w₀ → WalkTo w₀ k₀ v k l w → l < link_count (sheet_in w₀) → Outside w w' → r ≡ next_of Target w' l → l < r
walk-less {w₀} {w} {w'} {k₀} {v} {k} {l} {r} h d p g t e =
    let b : Outside w₀ w' = outside_trans (grown-outside p.grown) t in
    walks.walk-far (sheet_in w₀) w' (loaded-declared h.loaded) h.few_tasks (outside-held h b).long l r (chain-here h d b) g e

pub walk_ends : {w₀ w : List ℕ} {k₀ v k l : ℕ} → Held w₀ → WalkTo w₀ k₀ v k l w → link_count (sheet_in w₀) ≤ l → Grown k₀ k w₀ w × Peeled (sheet_in w₀) (place_in w₀ v + 1) k 0 0 w
walk_ends {w₀} {w} {k₀} {v} {k} {l} h p g =
    (p.grown, walks.walk-done (sheet_in w₀) w (loaded-declared h.loaded) h.few_tasks (outside-held h (grown-outside p.grown)).long (place_in w₀ v) k v l p.walking g)

-- the queue is no longer than there are tasks
pub peeled-few : {s : Sheet} {i k e f : ℕ} {w : List ℕ} → Peeled s i k e f w → k ≤ task_count s
peeled-few p = queued-few p.peel.queued

-- the level of task v of the sheet in w, by the levels there
abbrev formula : List ℕ → ℕ → ℕ
formula w v = work_of (sheet_in w) v + greatest (link_count (sheet_in w)) (level_by (sheet_in w) (level_in w) v)

pub set-fits : (w : List ℕ) (v : ℕ) {a x : ℕ} → Held w → Moderate (sheet_in w) v w → x ≡ greatest (link_count (sheet_in w)) (level_by (sheet_in w) (level_in w) v) → a ≤ 65535 → a + x < 4294967296
set-fits w v h m e short = omega (arith, levels.beyond-low (sheet_in w) w v (131070 * 256) (λ l g. let x = (ranged w h.loaded).costs l g in omega arith) m.low)

-- step i: the level of v, and then the walk
module _ (w : List ℕ) (h : Held w) (i k : ℕ) (left : i < k) (p : Peeled (sheet_in w) i k 0 0 w) (f : FirstLevels (sheet_in w) i w) {v : ℕ} (v-is : v ≡ task_at w i) where
  costs : (l : ℕ) → l < link_count (sheet_in w) → cost_of (sheet_in w) l ≤ 65535
  costs l g = omega (arith, (ranged w h.loaded).costs l g)

  pub take_in : v < task_count (sheet_in w)
  take_in = walks.take_in (sheet_in w) w (loaded-declared h.loaded) h.few_tasks h.long i k v 0 p left v-is

  pub take-moderate : Moderate (sheet_in w) v w
  take-moderate = rw v-is (levels.step-moderate (sheet_in w) w (loaded-declared h.loaded) h.few_tasks h.long i k p left f costs)

  module _ (w' : List ℕ) (e : w' ≡ set w (levels_at + v) (formula w v)) where
    sets-outside : Outside w w'
    sets-outside = rw e (outside-level v (formula w v) (let g = take_in in let n = h.few_tasks in omega arith) (outside-none w))

    sets-walking : Walking (sheet_in w) i k 0 v 0 0 w'
    sets-walking = rw e (walks.taken (sheet_in w) w (loaded-declared h.loaded) h.few_tasks h.long i k v (formula w v) p left v-is)

    pub take_walks : Chained Target (sheet_in w) w → Held w' × (Chained Target (sheet_in w') w' × Walking (sheet_in w') (place_in w' v) k 0 v 0 0 w')
    take_walks d = (
      outside-held h sets-outside,
      outside-own (λ (s : Sheet). Chained Target s w' × Walking s (place_in w' v) k 0 v 0 0 w') h sets-outside (
        chain-here h d sets-outside,
        subst (λ (j : ℕ). Walking (sheet_in w) j k 0 v 0 0 w') (sym sets-walking.here) sets-walking,
      ),
    )

    pub take_done : {r : ℕ} {w'' : List ℕ} → Grown k r w' w'' × Peeled (sheet_in w') (place_in w' v + 1) r 0 0 w'' → Taken i r w w''
    take_done {r} {w''} t =
        let g : Grown k r (set w (levels_at + task_at w i) (formula w (task_at w i))) w'' = subst (λ (x : List ℕ). Grown k r x w'') (e ∙ ap (λ (x : ℕ). set w (levels_at + x) (formula w x)) v-is) t.0 in
        let short : work_of (sheet_in w) (task_at w i) ≤ 65535 = let x = (ranged w h.loaded).works (task_at w i) (p.peel.queued.task i left) in omega arith in
        record {
          outside = outside_trans sets-outside (grown-outside t.0);
          peeled = subst (λ (j : ℕ). Peeled (sheet_in w) (j + 1) r 0 0 w'') sets-walking.here (outside-from (λ (s : Sheet). Peeled s (place_in w' v + 1) r 0 0 w'') h sets-outside t.1);
          levels = levels.first_more (sheet_in w) w (loaded-declared h.loaded) h.few_tasks h.long i k p left f costs (formula w (task_at w i)) short refl r w'' g;
          step = levels.level-set (sheet_in w) w (loaded-declared h.loaded) h.few_tasks h.long i k p left f costs (formula w (task_at w i)) short refl r w'' g;
        }

-- the loop over the steps, seen from where it began
pub record TakenTo (w₀ : List ℕ) (i k : ℕ) (w : List ℕ) : Type 0 where
  pub outside : Outside w₀ w
  pub peeled : Peeled (sheet_in w₀) i k 0 0 w
  pub levels : FirstLevels (sheet_in w₀) i w
  pub steps : Steps (sheet_in w₀) 0 w₀ i w

pub take-starts : (w : List ℕ) (k : ℕ) → Peeled (sheet_in w) 0 k 0 0 w → TakenTo w 0 k w
take-starts w k p = record { outside = outside-none w; peeled = p; levels = record { level = λ j h. absurd (omega arith); bounded = λ j h. absurd (omega arith) }; steps = here }

pub take-asks : {w₀ w : List ℕ} {i k : ℕ} → Held w₀ → Chained Source (sheet_in w₀) w₀ × Chained Target (sheet_in w₀) w₀ → TakenTo w₀ i k w → i < k
    → Held w × ((Chained Source (sheet_in w) w × Chained Target (sheet_in w) w) × ((i < k) × (Peeled (sheet_in w) i k 0 0 w × FirstLevels (sheet_in w) i w)))
take-asks {w₀} {w} {i} {k} h d p g =
    let b = p.outside in (
      outside-held h b,
      outside-own (λ (s : Sheet). (Chained Source s w × Chained Target s w) × ((i < k) × (Peeled s i k 0 0 w × FirstLevels s i w))) h b ((chain-here h d.0 b, chain-here h d.1 b), (g, (p.peeled, p.levels))),
    )

pub take-turns : {w₀ w w' : List ℕ} {i k r : ℕ} → Held w₀ → TakenTo w₀ i k w → Taken i r w w' → TakenTo w₀ (i + 1) r w'
take-turns {w₀} {w} {w'} {i} {k} {r} h p t =
    let e : sheet_in w ≡ sheet_in w₀ = outside-sheet h p.outside in
    record {
      outside = outside_trans p.outside t.outside;
      peeled = subst (λ (s : Sheet). Peeled s (i + 1) r 0 0 w') e t.peeled;
      levels = subst (λ (s : Sheet). FirstLevels s (i + 1) w') e t.levels;
      steps = then p.steps (subst (λ (s : Sheet). LevelSet s i w w') e t.step);
    }

pub take_ends : {w₀ w : List ℕ} {i k : ℕ} → TakenTo w₀ i k w → k ≤ i → Outside w₀ w × AllTaken (sheet_in w₀) k w × InThesisOrder (sheet_in w₀) k w₀ w
take_ends {w₀} {w} {i} {k} p h =
    let e : i ≡ k = omega (arith, p.peeled.peel.early) in (
      p.outside,
      record { peeled = subst (λ (x : ℕ). Peeled (sheet_in w₀) x k 0 0 w) e p.peeled; levels = subst (λ (x : ℕ). FirstLevels (sheet_in w₀) x w) e p.levels },
      in-thesis-order (subst (λ (x : ℕ). Steps (sheet_in w₀) 0 w₀ x w) e p.steps),
    )

-- one part of the peeling after the other
pub peel-counts : {w w' : List ℕ} → Held w → Outside w w' × Counted (sheet_in w) (task_count (sheet_in w)) 0 w' → Held w' × Counted (sheet_in w') (task_count (sheet_in w')) 0 w'
peel-counts {w} {w'} h d = (outside-held h d.0, outside-own (λ (s : Sheet). Counted s (task_count s) 0 w') h d.0 d.1)

pub peel-fills : {w w' : List ℕ} → Held w → Outside w w' × Filled (sheet_in w) 0 0 w' → Held w' × Filled (sheet_in w') 0 0 w'
peel-fills {w} {w'} h d = (outside-held h d.0, outside-own (λ (s : Sheet). Filled s 0 0 w') h d.0 d.1)

pub filled-turns : {w₀ w w' : List ℕ} {k : ℕ} → Held w₀ → Outside w₀ w → Outside w w' × Peeled (sheet_in w) 0 k 0 0 w' → Outside w₀ w' × Peeled (sheet_in w₀) 0 k 0 0 w'
filled-turns {w₀} {w} {w'} {k} h b d = (outside_trans b d.0, outside-from (λ (s : Sheet). Peeled s 0 k 0 0 w') h b d.1)

pub peel-takes : {w w' : List ℕ} {k : ℕ} → Held w → Chained Source (sheet_in w) w × Chained Target (sheet_in w) w → Outside w w' × Peeled (sheet_in w) 0 k 0 0 w'
    → Held w' × ((Chained Source (sheet_in w') w' × Chained Target (sheet_in w') w') × Peeled (sheet_in w') 0 k 0 0 w')
peel-takes {w} {w'} {k} h c d =
    (outside-held h d.0, outside-own (λ (s : Sheet). (Chained Source s w' × Chained Target s w') × Peeled s 0 k 0 0 w') h d.0 ((chain-here h c.0 d.0, chain-here h c.1 d.0), d.1))

pub peel-ends : {w w' w'' : List ℕ} {k : ℕ} → Held w → Outside w w' → Outside w' w'' × AllTaken (sheet_in w') k w'' × InThesisOrder (sheet_in w') k w' w''
    → Outside w w'' × AllTaken (sheet_in w) k w'' × Ordered (sheet_in w) k w''
peel-ends {w} {w'} {w''} {k} h b d =
    (outside_trans b d.0, outside-from (λ (s : Sheet). AllTaken s k w'') h b d.1, record { begin = w'; order = outside-from (λ (s : Sheet). InThesisOrder s k w' w'') h b d.2 })
