-- The search for a circle through a goal: the tasks that lead to it, gathered in the queue.
use Prim.Native.Nat.{ℕ, zero, suc, ◌+◌, ◌≤◌, ◌<◌}
use mathlib.Core.Bool.{Bool, true, false, false≢true, true≢false}
use mathlib.Core.Option.{none, some}
use mathlib.Core.Path.{◌≡◌, refl, ap, sym, ◌∙◌, subst}
use mathlib.Core.Logic.{◌≢◌, inl, inr, ⊎_elim}
use mathlib.Core.List.{List}
use native.Mathlib.Omega.{arith}
use native.Mathlib.Decide.{dec_lt, ℕ_discrete}
use borrow.Author.Tests.{lt-ltb}
use lib.ListN.{length, get_or}
use Rattle.workspace.specs.Area.{fixed, marks_at, queue_at}
use Rattle.folds.specs.Folds.{first}
use Rattle.folds.proofs.Laws.{first_found, first-none}
use Rattle.folds.proofs.Loops.{first-passed, first-at}
use Rattle.sheet.specs.Sheet.{Sheet, task_count, link_count, source_of, target_of}
use Rattle.sheet.specs.Tables.{sheet_in}
use Rattle.graph.specs.Graph.{reaches, on_circle, circle}
use Rattle.adjacency.specs.Chains.{head_of, next_of, Chained}
use Rattle.adjacency.specs.declared.End.TheVariants.{Target}
use Rattle.topological_order.specs.Words.{Held, Outside, place_in, Queued, pushed, done_by, done_up_to}
use Rattle.topological_order.specs.Peeling.{Counted, Emptied, Noted, Search, Searched, Spreading}
use Rattle.levelling.specs.Found.{SpreadIs}
use Rattle.workspace.specs.Found.{Found}
use Rattle.std.specs.Prelude.{Some, None}
use Rattle.graph.proofs.Reaches.{Declared, link-reaches, reaches-along, reaches-none}
use Rattle.topological_order.proofs.Frames.{loaded-declared, outside-sheet, outside-held, outside-none, outside_trans, outside-own, outside-from}
use Rattle.topological_order.proofs.Places.{place-in, place-off}
use Rattle.topological_order.proofs.Pushes.{queued-few, queued-room, queued-push, push-here, push_else, push-outside}
use Rattle.topological_order.proofs.Walks.{up_none, up-hop, up-end, up_same, up-late, up-else}
use Rattle.topological_order.proofs.Starts.{queued-none, done_none}
use Rattle.topological_order.proofs.Turns.{chain-here}

-- a task is noted
module _ (w : List ℕ) (h : Held w) (k u : ℕ) (u-in : u < task_count (sheet_in w)) (q : Queued (task_count (sheet_in w)) k w) {x : ℕ} (x_is : x ≡ get_or w (marks_at + u) 0) where
  pub note-stays : 65536 ≤ x → Outside w w × Noted (task_count (sheet_in w)) k u k w w
  note-stays l =
      let here : place_in w u < 256 = place-in w u (rw x_is at l) in
      (outside-none w, record { queued = q; more = omega arith; here = here; else = λ t g e. refl; kept = λ t g e. refl; late = λ e. absurd (omega arith) })

  note-free : x < 65536 → 256 ≤ place_in w u
  note-free l = place-off w u (rw x_is at l)

  pub note-room : x < 65536 → k < 256
  note-room l = omega (arith, h.few_tasks, queued-room u q u-in (note-free l))

  pub note-goes : x < 65536 → (w' : List ℕ) → w' ≡ pushed w k u → Outside w w' × Noted (task_count (sheet_in w)) k u (k + 1) w w'
  note-goes l w' e =
      let n : ℕ = task_count (sheet_in w) in
      let free : 256 ≤ place_in w u = note-free l in
      let room = note-room l in
      let there : place_in (pushed w k u) u ≡ k = push-here n k u w h.few_tasks h.long u-in free q in
      let else : (t : ℕ) → t < n → t ≢ u → place_in (pushed w k u) t ≡ place_in w t = push_else n k u w h.few_tasks h.long u-in free q in
      subst (λ (z : List ℕ). Outside w z × Noted n k u (k + 1) w z) (sym e) (
        push-outside n k u w h.few_tasks h.long u-in free q,
        record {
          queued = queued-push n k u w h.few_tasks h.long u-in free q;
          more = omega arith;
          here = rw there room;
          else = else;
          kept = λ t p g. else t p (λ z. let y : place_in w t ≡ place_in w u = ap (place_in w) z in absurd (omega arith));
          late = λ g. there;
        },
      )

pub search-same : {s : Sheet} {goal k : ℕ} {w : List ℕ} (c c' : ℕ → Bool) → ((l : ℕ) → l < link_count s → c l ≡ c' l) → Search s goal c k w → Search s goal c' k w
search-same c c' e p =
    record { queued = p.queued; goal_task = p.goal_task; goal_in = p.goal_in; sound = p.sound; closed = λ l h q. p.closed l h (e l h ∙ q); apart = λ l h q. p.apart l h (e l h ∙ q) }

module _ (s : Sheet) (declared : Declared s) (few : task_count s ≤ 256) (goal i l v : ℕ) where
  module _ (k : ℕ) (w : List ℕ) (p : Spreading s goal i k l v w) (l-in : l < link_count s) (to : target_of s l ≡ v) where
    few-i : i < 256
    few-i = omega (arith, p.early, queued-few p.search.queued)

    -- what reaches v reaches the goal
    reached : reaches (task_count s) s (source_of s l) goal ≡ true
    reached = go (ℕ_discrete (target_of s l) goal)
      where
        go : Dec (target_of s l ≡ goal) → reaches (task_count s) s (source_of s l) goal ≡ true
        go (yes e) = reaches-along s declared l goal l-in (inl e)
        go (no e) =
            let x : place_in w (target_of s l) ≡ i = ap (place_in w) to ∙ p.here in
            reaches-along s declared l goal l-in (inr (p.search.sound (target_of s l) (declared.target l l-in) (omega (arith, few-i)) e))

    pub spread-back : source_of s l ≡ goal → on_circle s goal ≡ true
    unfolding on_circle
    spread-back e = ap (λ (x : ℕ). reaches (task_count s) s x goal) (sym e) ∙ reached

    module _ {u r : ℕ} (w' : List ℕ) (u-is : u ≡ source_of s l) (other : u ≡ goal → ⊥) (n : Noted (task_count s) k u r w w') where
      -- the links that were counted before
      was : (j : ℕ) → j < link_count s → done_up_to s i (l + 1) v w j ≡ done_up_to s i (l + 1) v w' j
      was j g = go (ℕ_discrete (target_of s j) u) (dec_lt (place_in w (target_of s j)) 256)
        where
          go : Dec (target_of s j ≡ u) → Dec (place_in w (target_of s j) < 256) → done_up_to s i (l + 1) v w j ≡ done_up_to s i (l + 1) v w' j
          go d (yes h) = up_same s i v j w w' (l + 1) (n.kept (target_of s j) (declared.target j g) h)
          go (no e) (no h) = up_same s i v j w w' (l + 1) (n.else (target_of s j) (declared.target j g) e)
          go (yes e) (no h) =
              let a : place_in w (target_of s j) ≡ place_in w u = ap (place_in w) e in
              let b : place_in w' (target_of s j) ≡ place_in w' u = ap (place_in w') e in
              let late = n.late (omega arith) in
              let f = few-i in
              up-late s i v j w w' (l + 1) (omega arith) (omega (arith, p.early))

      closed' : (j : ℕ) → j < link_count s → done_up_to s i (l + 1) v w' j ≡ true → Dec (j ≡ l) → place_in w' (source_of s j) < 256
      closed' j h q (yes e) =
          let x : source_of s j ≡ u = ap (source_of s) e ∙ sym u-is in
          let y : place_in w' (source_of s j) ≡ place_in w' u = ap (place_in w') x in
          omega (arith, n.here)
      closed' j h q (no e) =
          let x = p.search.closed j h (sym (up-else s i v l j w e) ∙ was j h ∙ q) in
          rw (n.kept (source_of s j) (declared.source j h) x) x

      apart' : (j : ℕ) → j < link_count s → done_up_to s i (l + 1) v w' j ≡ true → Dec (j ≡ l) → source_of s j ≡ goal → ⊥
      apart' j h q (yes e) g = other (u-is ∙ ap (source_of s) (sym e) ∙ g)
      apart' j h q (no e) g = p.search.apart j h (sym (up-else s i v l j w e) ∙ was j h ∙ q) g

      sound' : (t : ℕ) → t < task_count s → place_in w' t < 256 → (t ≡ goal → ⊥) → Dec (t ≡ u) → reaches (task_count s) s t goal ≡ true
      sound' t h g d (yes e) = ap (λ (x : ℕ). reaches (task_count s) s x goal) (e ∙ u-is) ∙ reached
      sound' t h g d (no e) = p.search.sound t h (omega (arith, n.else t h e)) d

      pub spread-turns : Spreading s goal i r (l + 1) v w'
      spread-turns =
          let f = few-i in
          record {
            search = record {
              queued = n.queued;
              goal_task = p.search.goal_task;
              goal_in = rw (n.kept goal p.search.goal_task p.search.goal_in) p.search.goal_in;
              sound = λ t h g d. sound' t h g d (ℕ_discrete t u);
              closed = λ j h q. closed' j h q (ℕ_discrete j l);
              apart = λ j h q. apart' j h q (ℕ_discrete j l);
            };
            task = p.task;
            here = n.kept v p.task (omega (arith, p.here)) ∙ p.here;
            early = omega (arith, p.early, n.more);
          }

-- from one link into v to the next
spread-hop : (s : Sheet) (w : List ℕ) (goal i k j j' v : ℕ) → Spreading s goal i k j v w → j ≤ j' → ((l : ℕ) → l < link_count s → j ≤ l → l < j' → target_of s l ≢ v) → Spreading s goal i k j' v w
spread-hop s w goal i k j j' v p h gap =
    record { search = search-same (done_up_to s i j v w) (done_up_to s i j' v w) (λ l g. up-hop s i v l w j j' h (gap l g)) p.search; task = p.task; here = p.here; early = p.early }

-- the walk, seen from where it began
pub record SpreadTo (w₀ : List ℕ) (goal v k l : ℕ) (w : List ℕ) : Type 0 where
  pub outside : Outside w₀ w
  pub here : l ≤ link_count (sheet_in w₀)
  pub own : l < link_count (sheet_in w₀) → target_of (sheet_in w₀) l ≡ v
  pub spreading : Spreading (sheet_in w₀) goal (place_in w₀ v) k l v w

pub spread-starts : (w : List ℕ) (goal v k r : ℕ) → Held w → Chained Target (sheet_in w) w → Spreading (sheet_in w) goal (place_in w v) k 0 v w → r ≡ head_of Target w v → SpreadTo w goal v k r w
spread-starts w goal v k r h d p e =
    record {
      outside = outside-none w;
      here = rw e (d.head_few v p.task);
      own = λ g. ap (target_of (sheet_in w)) e ∙ d.head_own v p.task (rw e at g);
      spreading = spread-hop (sheet_in w) w goal (place_in w v) k 0 r v p (omega arith) (λ l g a b. d.head_none v p.task l (rw e at b));
    }

-- what a turn asks
pub spread-asks : {w₀ w : List ℕ} {goal v k l u : ℕ} → Held w₀ → SpreadTo w₀ goal v k l w → u < task_count (sheet_in w) → Held w × ((u < task_count (sheet_in w)) × Queued (task_count (sheet_in w)) k w)
spread-asks {w₀} {w} {goal} {v} {k} {l} {u} h p g =
    (outside-held h p.outside, (g, outside-own (λ (s : Sheet). Queued (task_count s) k w) h p.outside p.spreading.search.queued))

pub spread-source : {w₀ w : List ℕ} {goal v k l : ℕ} → Held w₀ → SpreadTo w₀ goal v k l w → l < link_count (sheet_in w₀) → l < link_count (sheet_in w)
spread-source {w₀} {w} {goal} {v} {k} {l} h p g = rw (outside-sheet h p.outside) g

pub spread-closes : {w₀ w : List ℕ} {goal v k l u : ℕ} → Held w₀ → SpreadTo w₀ goal v k l w → l < link_count (sheet_in w₀) → u ≡ source_of (sheet_in w) l → u ≡ goal → on_circle (sheet_in w₀) goal ≡ true
spread-closes {w₀} {w} {goal} {v} {k} {l} {u} h p g e q =
    spread-back (sheet_in w₀) (loaded-declared h.loaded) h.few_tasks goal (place_in w₀ v) l v k w p.spreading g (p.own g) (ap (λ (s : Sheet). source_of s l) (sym (outside-sheet h p.outside)) ∙ sym e ∙ q)

pub spread-goes : {w₀ w w' : List ℕ} {goal v k k' l u r : ℕ} → Held w₀ → Chained Target (sheet_in w₀) w₀ → SpreadTo w₀ goal v k l w → l < link_count (sheet_in w₀) → u ≡ source_of (sheet_in w) l → (u ≡ goal → ⊥)
    → Outside w w' × Noted (task_count (sheet_in w)) k u k' w w' → r ≡ next_of Target w' l → SpreadTo w₀ goal v k' r w'
spread-goes {w₀} {w} {w'} {goal} {v} {k} {k'} {l} {u} {r} h d p g e o t q =
    let b : Outside w₀ w' = outside_trans p.outside t.0 in
    let c : Chained Target (sheet_in w₀) w' = chain-here h d b in
    let to = p.own g in
    let n : Noted (task_count (sheet_in w₀)) k u k' w w' = outside-from (λ (s : Sheet). Noted (task_count s) k u k' w w') h p.outside t.1 in
    let m : Spreading (sheet_in w₀) goal (place_in w₀ v) k' (l + 1) v w' =
    spread-turns (sheet_in w₀) (loaded-declared h.loaded) h.few_tasks goal (place_in w₀ v) l v k w p.spreading g to w' (e ∙ ap (λ (s : Sheet). source_of s l) (outside-sheet h p.outside)) o n in
    record {
      outside = b;
      here = rw q (c.next_few l g);
      own = λ a. ap (target_of (sheet_in w₀)) q ∙ c.next_own l g (rw q at a) ∙ to;
      spreading = spread-hop (sheet_in w₀) w' goal (place_in w₀ v) k' (l + 1) r v m (let x = c.next_more l g in omega arith) (λ j a x y z. c.next_none l g j (omega arith) (rw q at y) (z ∙ sym to));
    }

pub spread-less : {w₀ w w' : List ℕ} {goal v k l r : ℕ} → Held w₀ → Chained Target (sheet_in w₀) w₀ → SpreadTo w₀ goal v k l w → l < link_count (sheet_in w₀) → Outside w w' → r ≡ next_of Target w' l → l < r
spread-less {w₀} {w} {w'} {goal} {v} {k} {l} {r} h d p g t e =
    let c : Chained Target (sheet_in w₀) w' = chain-here h d (outside_trans p.outside t) in
    let x = c.next_more l g in
    omega arith

pub spread-ends : {w₀ w : List ℕ} {goal v k l : ℕ} → Held w₀ → SpreadTo w₀ goal v k l w → link_count (sheet_in w₀) ≤ l → Searched (sheet_in w₀) goal (place_in w₀ v + 1) k w
spread-ends {w₀} {w} {goal} {v} {k} {l} h p g =
    let s : Sheet = sheet_in w₀ in
    let i : ℕ = place_in w₀ v in
    let q = p.spreading in
    record { search = search-same (done_up_to s i l v w) (done_by s (i + 1) w) (λ j a. up-end s i v j w l (omega arith) q.here (λ x. only (target_of s j) ((loaded-declared h.loaded).target j a) x)) q.search }
  where
    only : (t : ℕ) → t < task_count (sheet_in w₀) → place_in w t ≡ place_in w₀ v → t ≡ v
    only t a x =
        let q = p.spreading in
        let f = queued-few q.search.queued in
        let e = q.early in
        let here = q.here in
        let few = h.few_tasks in
        sym (q.search.queued.back t a (omega arith)) ∙ ap (λ (z : ℕ). get_or w (queue_at + z) 0) (x ∙ sym here) ∙ q.search.queued.back v q.task (omega arith)

-- of blank marks none is of a task in the queue
pub blank-empties : {s : Sheet} {n : ℕ} {w w' : List ℕ} → Outside w w' × Counted s n 0 w' → Outside w w' × Emptied n w'
blank-empties b = (b.0, record { at = b.1.place })

-- the search begins with the goal alone
pub search-starts : {s : Sheet} {goal : ℕ} {w w' : List ℕ} → task_count s ≤ 256 → fixed ≤ length w → goal < task_count s → Emptied (task_count s) w → w' ≡ pushed w 0 goal → Outside w w' × Searched s goal 0 1 w'
search-starts {s} {goal} {w} {w'} few long g blank e =
    let q : Queued (task_count s) 0 w = queued-none blank.at in
    let free : 256 ≤ place_in w goal = omega (arith, blank.at goal g) in
    let there : place_in (pushed w 0 goal) goal ≡ 0 = push-here (task_count s) 0 goal w few long g free q in
    let else : (t : ℕ) → t < task_count s → t ≢ goal → place_in (pushed w 0 goal) t ≡ place_in w t = push_else (task_count s) 0 goal w few long g free q in
    subst (λ (x : List ℕ). Outside w x × Searched s goal 0 1 x) (sym e) (
      push-outside (task_count s) 0 goal w few long g free q,
      record {
        search = record {
          queued = queued-push (task_count s) 0 goal w few long g free q;
          goal_task = g;
          goal_in = rw there (omega arith);
          sound = λ t h a d. absurd (omega (arith, else t h d, blank.at t h));
          closed = λ l h x. absurd (true≢false (sym x ∙ done_none s (pushed w 0 goal) l));
          apart = λ l h x. absurd (true≢false (sym x ∙ done_none s (pushed w 0 goal) l));
        };
      },
    )

-- the next task of the queue
module _ (s : Sheet) (w : List ℕ) (goal i k : ℕ) (p : Searched s goal i k w) (left : i < k) {v : ℕ} (v-is : v ≡ get_or w (queue_at + i) 0) where
  pub search-next : Spreading s goal (place_in w v) k 0 v w × (place_in w v ≡ i)
  search-next =
      let here : place_in w v ≡ i = ap (place_in w) v-is ∙ p.search.queued.place i left in (
        subst (λ (j : ℕ). Spreading s goal j k 0 v w) (sym here)
            (record {
              search = search-same (done_by s i w) (done_up_to s i 0 v w) (λ l h. up_none s i v l w) p.search;
              task = rw v-is (p.search.queued.task i left);
              here = here;
              early = left;
            }),
        here,
      )

-- every task of the queue was looked at: what leads to the goal is in it, and no link of the goal leads there
module _ (s : Sheet) (w : List ℕ) (goal i k : ℕ) (declared : Declared s) (goal_task : goal < task_count s) (p : Searched s goal i k w) (all : k ≤ i) where
  done-in : (l : ℕ) → l < link_count s → place_in w (target_of s l) < 256 → done_by s i w l ≡ true
  unfolding done_by
  done-in l h g = lt-ltb (place_in w (target_of s l)) i (omega (arith, p.search.queued.few (target_of s l) (declared.target l h) g))

  leads-in : (n t : ℕ) → reaches n s t goal ≡ true → (place_in w t < 256) × (t ≢ goal)
  leads-in zero t e = absurd (false≢true (sym (reaches-none s t goal) ∙ e))
  leads-in (suc n) t e =
      let m = link-reaches s n t goal e in
      let g : place_in w (target_of s m.0) < 256 =
      ⊎_elim (λ q. rw q p.search.goal_in) (λ q. (leads-in n (target_of s m.0) q).0) m.3 in
      let c = done-in m.0 m.1 g in
      (rw m.2 at (p.search.closed m.0 m.1 c), λ q. p.search.apart m.0 m.1 c (m.2 ∙ q))

  pub search-ends : on_circle s goal ≡ false
  unfolding on_circle
  search-ends = go (reaches (task_count s) s goal goal) refl
    where
      go : (b : Bool) → reaches (task_count s) s goal goal ≡ b → reaches (task_count s) s goal goal ≡ false
      go true e = absurd ((leads-in (task_count s) goal e).1 refl)
      go false e = e

-- the same, for the sheet that stands in a work area
pub goal-first : {w w₁ w₂ : List ℕ} {goal : ℕ} → Held w → goal < task_count (sheet_in w) → Outside w w₁ × Emptied (task_count (sheet_in w)) w₁ → w₂ ≡ pushed w₁ 0 goal → Outside w w₂ × Searched (sheet_in w) goal 0 1 w₂
goal-first {w} {w₁} {w₂} {goal} h g d e =
    let q = search-starts {s = sheet_in w} h.few_tasks (outside-held h d.0).long g d.1 e in
    (outside_trans d.0 q.0, q.1)

pub goal-asks : {w w₂ : List ℕ} {goal : ℕ} → Held w → Chained Target (sheet_in w) w → goal < task_count (sheet_in w) → Outside w w₂ × Searched (sheet_in w) goal 0 1 w₂
    → Held w₂ × (Chained Target (sheet_in w₂) w₂ × ((goal < task_count (sheet_in w₂)) × Searched (sheet_in w₂) goal 0 1 w₂))
goal-asks {w} {w₂} {goal} h c g d = (outside-held h d.0, outside-own (λ (s : Sheet). Chained Target s w₂ × ((goal < task_count s) × Searched s goal 0 1 w₂)) h d.0 (chain-here h c d.0, (g, d.1)))

pub goal-ends : {w w₂ w₃ : List ℕ} (goal : ℕ) {r : Bool} → Held w → Outside w w₂ → Outside w₂ w₃ × (r ≡ on_circle (sheet_in w₂) goal) → Outside w w₃ × (r ≡ on_circle (sheet_in w) goal)
goal-ends {w} {w₂} {w₃} goal {r} h b d = (outside_trans b d.0, outside-from (λ (s : Sheet). r ≡ on_circle s goal) h b d.1)

pub look-index : {s : Sheet} {goal i k : ℕ} {w : List ℕ} → Searched s goal i k w → i < k → i < task_count s
look-index p h = omega (arith, queued-few p.search.queued)

pub look-asks : {w₀ w : List ℕ} {goal i k : ℕ} → Held w₀ → Chained Target (sheet_in w₀) w₀ → Outside w₀ w → i < k → Searched (sheet_in w₀) goal i k w → Held w × (Chained Target (sheet_in w) w × ((i < k) × Searched (sheet_in w) goal i k w))
look-asks {w₀} {w} {goal} {i} {k} h c b g p = (outside-held h b, outside-own (λ (s : Sheet). Chained Target s w × ((i < k) × Searched s goal i k w)) h b (chain-here h c b, (g, p)))

pub look-back : {w₀ w w' : List ℕ} {goal i : ℕ} {r : Found} → Held w₀ → Outside w₀ w → r ≡ None → SpreadIs (sheet_in w) goal i w' r → true ≡ on_circle (sheet_in w₀) goal
look-back {w₀} {w} {w'} {goal} {i} {r} h b e p = sym (outside-from (λ (s : Sheet). on_circle s goal ≡ true) h b (p.back e))

pub look-on : {w₀ w w' : List ℕ} {goal i k : ℕ} {r : Found} → Held w₀ → Outside w₀ w → r ≡ Some k → SpreadIs (sheet_in w) goal i w' r → Searched (sheet_in w₀) goal i k w'
look-on {w₀} {w} {w'} {goal} {i} {k} {r} h b e p = outside-from (λ (s : Sheet). Searched s goal i k w') h b (p.on k e)

pub spread-is-back : {s : Sheet} {goal i : ℕ} {w : List ℕ} → on_circle s goal ≡ true → SpreadIs s goal i w None
spread-is-back e = record { back = λ q. e; on = λ k q. let z : ◌≡◌ {A = ℕ} 0 1 = cc in absurd (omega arith) }

pub spread-is-on : {s : Sheet} {goal i k : ℕ} {w : List ℕ} → Searched s goal i k w → SpreadIs s goal i w (Some k)
spread-is-on {s} {goal} {i} {k} {w} p = record { back = λ q. let z : ◌≡◌ {A = ℕ} 0 1 = cc in absurd (omega arith); on = λ j q. let z : k ≡ j = cc in subst (λ (x : ℕ). Searched s goal i x w) z p }

pub look-ends : {w₀ w : List ℕ} {goal i k : ℕ} → Held w₀ → goal < task_count (sheet_in w₀) → Searched (sheet_in w₀) goal i k w → k ≤ i → false ≡ on_circle (sheet_in w₀) goal
look-ends {w₀} {w} {goal} {i} {k} h g p l = sym (search-ends (sheet_in w₀) w goal i k (loaded-declared h.loaded) g p l)

-- one step of the search, at place i of the queue
pub look_is : {s : Sheet} {goal i j : ℕ} {w' : List ℕ} {r : Found} → j ≡ i → SpreadIs s goal (j + 1) w' r → SpreadIs s goal (i + 1) w' r
look_is {s} {goal} {i} {j} {w'} {r} e p = subst (λ (x : ℕ). SpreadIs s goal (x + 1) w' r) e p

-- the lowest task on a circle
pub find-asks : {w₀ w : List ℕ} {t : ℕ} → Held w₀ → Chained Target (sheet_in w₀) w₀ → Outside w₀ w → t < task_count (sheet_in w₀) → Held w × (Chained Target (sheet_in w) w × (t < task_count (sheet_in w)))
find-asks {w₀} {w} {t} h c b g = (outside-held h b, outside-own (λ (s : Sheet). Chained Target s w × (t < task_count s)) h b (chain-here h c b, g))

pub find-hit : {w₀ w : List ℕ} (t : ℕ) {r : Bool} → Held w₀ → Outside w₀ w → t < task_count (sheet_in w₀) → first t (on_circle (sheet_in w₀)) ≡ none → r ≡ on_circle (sheet_in w) t → r ≡ true → some t ≡ circle (sheet_in w₀)
unfolding circle
find-hit {w₀} {w} t {r} h b g f e q =
    let on : on_circle (sheet_in w₀) t ≡ true = outside-from (λ (s : Sheet). on_circle s t ≡ true) h b (sym e ∙ q) in
    sym (first_found (task_count (sheet_in w₀)) (on_circle (sheet_in w₀)) t (first-none t (on_circle (sheet_in w₀)) f) on g)

pub find-miss : {w₀ w : List ℕ} (t : ℕ) {r : Bool} → Held w₀ → Outside w₀ w → first t (on_circle (sheet_in w₀)) ≡ none → r ≡ on_circle (sheet_in w) t → r ≡ false → first (t + 1) (on_circle (sheet_in w₀)) ≡ none
find-miss {w₀} {w} t {r} h b f e q = first-passed t (on_circle (sheet_in w₀)) f (outside-from (λ (s : Sheet). on_circle s t ≡ false) h b (sym e ∙ q))

pub find-done : (s : Sheet) (t : ℕ) → first t (on_circle s) ≡ none → t ≡ task_count s → none ≡ circle s
unfolding circle
find-done s t f e = first-at (on_circle s) t (task_count s) f e

pub find-start : (s : Sheet) → first 0 (on_circle s) ≡ none
unfolding first
find-start s = refl
