-- Walking the links into a task that is taken off: which links are counted off before, at and behind each of them.
use Prim.Native.Nat.{ℕ, ◌+◌, ◌-◌, ◌≤◌, ◌<◌}
use mathlib.Core.Bool.{true, false}
use mathlib.Core.Path.{◌≡◌, refl, ap, ap₂, sym, ◌∙◌, subst}
use mathlib.Core.Logic.{◌≢◌}
use mathlib.Core.List.{List}
use native.Mathlib.Omega.{arith}
use native.Mathlib.Decide.{dec_lt, ℕ_discrete}
use borrow.Author.Tests.{eq-eqb, ne_eqb, lt-ltb, le-ltb}
use lib.ListN.{length, get_or, set, length-set}
use lib.Seq.{get_or-set_other}
use lib.Dec.{eqb, ltb}
use Rattle.workspace.specs.Area.{fixed, levels_at, marks_at, opened_at, queue_at}
use Rattle.folds.specs.Folds.{both, either}
use Rattle.folds.proofs.Tests.{both_false, either_true, either-false}
use Rattle.sheet.specs.Sheet.{Sheet, task_count, link_count, source_of, target_of}
use Rattle.adjacency.specs.Chains.{head_of, next_of, Chained}
use Rattle.adjacency.specs.declared.End.TheVariants.{Target}
use Rattle.topological_order.specs.Words.{Grown, place_in, degree_in, task_at, pushed, done_by, done_up_to}
use Rattle.topological_order.specs.Peeling.{Peeled, Walking}
use Rattle.adjacency.proofs.Frames.{only_none, only_set}
use Rattle.graph.proofs.Reaches.{Declared}
use Rattle.topological_order.proofs.Frames.{grown-trans}
use Rattle.topological_order.proofs.Places.{word-is}
use Rattle.topological_order.proofs.Pushes.{queued-few, queued-room, push-here, push_else, push-grown}
use Rattle.topological_order.proofs.Lights.{peel-same, light-some, light-free, light-degree, light-place, peel-light, peel-push, pop-same, peel-pop}

module _ (s : Sheet) (i v l : ℕ) where
  -- none of the links into v
  pub up_none : (w : List ℕ) → done_by s i w l ≡ done_up_to s i 0 v w l
  unfolding done_by done_up_to
  up_none w = rw (le-ltb l 0 (omega arith), both_false (eqb (target_of s l) v), either-false (ltb (place_in w (target_of s l)) i))

  -- no link into v from j up to j'
  pub up-hop : (w : List ℕ) (j j' : ℕ) → j ≤ j' → (j ≤ l → l < j' → target_of s l ≢ v) → done_up_to s i j v w l ≡ done_up_to s i j' v w l
  unfolding done_up_to
  up-hop w j j' h none = ap (either (ltb (place_in w (target_of s l)) i)) (go (ℕ_discrete (target_of s l) v) (dec_lt l j) (dec_lt l j'))
    where
      go : Dec (target_of s l ≡ v) → Dec (l < j) → Dec (l < j') → both (eqb (target_of s l) v) (ltb l j) ≡ both (eqb (target_of s l) v) (ltb l j')
      go (no e) a b = rw (ne_eqb (target_of s l) v e)
      go (yes e) (yes a) b = rw (lt-ltb l j a, lt-ltb l j' (omega arith))
      go (yes e) (no a) (yes b) = absurd (none (omega arith) b e)
      go (yes e) (no a) (no b) = rw (le-ltb l j (omega arith), le-ltb l j' (omega arith))

  -- all the links into v
  pub up-end : (w : List ℕ) (m : ℕ) → l < m → place_in w v ≡ i → (place_in w (target_of s l) ≡ i → target_of s l ≡ v) → done_up_to s i m v w l ≡ done_by s (i + 1) w l
  unfolding done_by done_up_to
  up-end w m h here only = go (ℕ_discrete (target_of s l) v) (dec_lt (place_in w (target_of s l)) i)
    where
      go : Dec (target_of s l ≡ v) → Dec (place_in w (target_of s l) < i) → either (ltb (place_in w (target_of s l)) i) (both (eqb (target_of s l) v) (ltb l m)) ≡ ltb (place_in w (target_of s l)) (i + 1)
      go (yes e) b =
          let x : place_in w (target_of s l) ≡ i = ap (place_in w) e ∙ here in
          rw (eq-eqb (target_of s l) v e, lt-ltb l m h, either_true (ltb (place_in w (target_of s l)) i)) (sym (lt-ltb (place_in w (target_of s l)) (i + 1) (omega arith)))
      go (no e) (yes b) = rw (lt-ltb (place_in w (target_of s l)) i b) (sym (lt-ltb (place_in w (target_of s l)) (i + 1) (omega arith)))
      go (no e) (no b) =
          let d : place_in w (target_of s l) ≢ i = λ q. e (only q) in
          rw (le-ltb (place_in w (target_of s l)) i (omega arith), ne_eqb (target_of s l) v e) (sym (le-ltb (place_in w (target_of s l)) (i + 1) (omega arith)))

  -- the same where the places are
  pub up_same : (w w' : List ℕ) (j : ℕ) → place_in w' (target_of s l) ≡ place_in w (target_of s l) → done_up_to s i j v w l ≡ done_up_to s i j v w' l
  unfolding done_up_to
  up_same w w' j e = ap (λ (x : ℕ). either (ltb x i) (both (eqb (target_of s l) v) (ltb l j))) (sym e)

  -- the same where both places are at i or later
  pub up-late : (w w' : List ℕ) (j : ℕ) → i ≤ place_in w (target_of s l) → i ≤ place_in w' (target_of s l) → done_up_to s i j v w l ≡ done_up_to s i j v w' l
  unfolding done_up_to
  up-late w w' j a b = rw (le-ltb (place_in w (target_of s l)) i a, le-ltb (place_in w' (target_of s l)) i b)

  pub up-off : (w : List ℕ) → i ≤ place_in w (target_of s l) → done_up_to s i l v w l ≡ false
  unfolding done_up_to
  up-off w a = rw (le-ltb (place_in w (target_of s l)) i a, le-ltb l l (omega arith), both_false (eqb (target_of s l) v))

  pub up-on : (w : List ℕ) → target_of s l ≡ v → done_up_to s i (l + 1) v w l ≡ true
  unfolding done_up_to
  up-on w e = rw (eq-eqb (target_of s l) v e, lt-ltb l (l + 1) (omega arith), either_true (ltb (place_in w (target_of s l)) i))

-- one link more is another at that link alone
pub up-else : (s : Sheet) (i v l j : ℕ) (w : List ℕ) → j ≢ l → done_up_to s i (l + 1) v w j ≡ done_up_to s i l v w j
up-else s i v l j w d = sym (up-hop s i v j w l (l + 1) (omega arith) (λ a b. absurd (d (omega arith))))

module _ (s : Sheet) (w : List ℕ) (declared : Declared s) (few : task_count s ≤ 256) (long : fixed ≤ length w) where
  module _ (i k l v : ℕ) (p : Walking s i k l v 0 0 w) (l-in : l < link_count s) (to : target_of s l ≡ v) where
    place-to : place_in w (target_of s l) ≡ i
    place-to = ap (place_in w) to ∙ p.here

    off : done_up_to s i l v w l ≡ false
    off = up-off s i v l w (omega (arith, place-to))

    on : done_up_to s i (l + 1) v w l ≡ true
    on = up-on s i v l w to

    few-i : i + 1 ≤ 256
    few-i = omega (arith, p.peel.early, queued-few p.peel.queued)

    module _ (d : ℕ) (d-is : d ≡ degree_in w (source_of s l) - 1) where
      abbrev u : ℕ
      u = source_of s l

      abbrev lw : List ℕ
      lw = set w (marks_at + source_of s l) d

      same_place : (t : ℕ) → place_in lw t ≡ place_in w t
      same_place = light-place s w declared few long (done_up_to s i l v w) (done_up_to s i (l + 1) v w) (i + 1) k l d p.peel l-in off on (λ j h q. up-else s i v l j w q) (omega (arith, place-to)) d-is

      some-degree : 1 ≤ degree_in w (source_of s l)
      some-degree = light-some s w declared few long (done_up_to s i l v w) (done_up_to s i (l + 1) v w) (i + 1) k l d p.peel l-in off on (λ j h q. up-else s i v l j w q) (omega (arith, place-to)) d-is

      free : 256 ≤ place_in w (source_of s l)
      free = light-free s w declared few long (done_up_to s i l v w) (done_up_to s i (l + 1) v w) (i + 1) k l d p.peel l-in off on (λ j h q. up-else s i v l j w q) (omega (arith, place-to)) d-is

      lighted : Walking s i k (l + 1) v u (u + 1) lw
      lighted =
          record {
            peel = peel-same (done_up_to s i (l + 1) v w) (done_up_to s i (l + 1) v lw) (λ j h. up_same s i v j w lw (l + 1) (same_place (target_of s j)))
                (peel-light s w declared few long (done_up_to s i l v w) (done_up_to s i (l + 1) v w) (i + 1) k l d p.peel l-in off on (λ j h q. up-else s i v l j w q) (omega (arith, place-to)) d-is);
            task = p.task;
            here = same_place v ∙ p.here;
          }

      grown-lit : Grown k k w lw
      grown-lit =
          let h = declared.source l l-in in
          record {
            only = only_set (marks_at + u) d (omega arith) (omega arith) (only_none marks_at opened_at w);
            more = omega arith;
            queue = λ j g. get_or-set_other w (marks_at + u) (queue_at + j) d 0 (omega arith);
          }

      degree-lit : degree_in lw u ≡ d
      degree-lit = light-degree s w declared few long (done_up_to s i l v w) (done_up_to s i (l + 1) v w) (i + 1) k l d p.peel l-in off on (λ j h q. up-else s i v l j w q) (omega (arith, place-to)) d-is

      -- the source still waits
      stays : d ≢ 0 → Walking s i k (l + 1) v 0 0 lw
      stays h =
          let q = lighted in
          record { peel = record { queued = q.peel.queued; early = q.peel.early; lit = q.peel.lit; degree = q.peel.degree; ready = q.peel.ready; waits = λ t a b c. wait q t a c (ℕ_discrete t u); falls = q.peel.falls }; task = q.task; here = q.here }
        where
          wait : Walking s i k (l + 1) v u (u + 1) lw → (t : ℕ) → t < task_count s → degree_in lw t ≡ 0 → Dec (t ≡ u) → place_in lw t < 256
          wait q t a c (yes e) = absurd (h (sym degree-lit ∙ ap (degree_in lw) (sym e) ∙ c))
          wait q t a c (no e) = q.peel.waits t a (λ x y. e (omega arith)) c

      -- the source is ready
      goes : d ≡ 0 → Grown k (k + 1) lw (pushed lw k u) × Walking s i (k + 1) (l + 1) v 0 0 (pushed lw k u)
      goes h =
          let q = lighted in
          let lw-long : fixed ≤ length lw = simp length-set long in
          let u-in : u < task_count s = declared.source l l-in in
          let u-free : 256 ≤ place_in lw u = rw (same_place u) free in
          let f = few-i in
          let there : place_in (pushed lw k u) u ≡ k = push-here (task_count s) k u lw few lw-long u-in u-free q.peel.queued in
          let else : (t : ℕ) → t < task_count s → t ≢ u → place_in (pushed lw k u) t ≡ place_in lw t = push_else (task_count s) k u lw few lw-long u-in u-free q.peel.queued in (
            push-grown (task_count s) k u lw few lw-long u-in u-free q.peel.queued,
            record {
              peel = peel-same (done_up_to s i (l + 1) v lw) (done_up_to s i (l + 1) v (pushed lw k u)) (λ j a. same j a (ℕ_discrete (target_of s j) u) there else u-free q.peel.early)
                  (peel-push s lw declared few lw-long (done_up_to s i (l + 1) v lw) (i + 1) k u (u + 1) 0 0 u q.peel u-in u-free (degree-lit ∙ h) (λ t a b c d. a (omega arith)));
              task = q.task;
              here = else v q.task (λ e. let x : place_in lw v ≡ place_in lw u = ap (place_in lw) e in absurd (omega (arith, q.here))) ∙ q.here;
            },
          )
        where
          same : (j : ℕ) → j < link_count s → Dec (target_of s j ≡ u) → place_in (pushed lw k u) u ≡ k → ((t : ℕ) → t < task_count s → t ≢ u → place_in (pushed lw k u) t ≡ place_in lw t) → 256 ≤ place_in lw u → i + 1 ≤ k → done_up_to s i (l + 1) v lw j ≡ done_up_to s i (l + 1) v (pushed lw k u) j
          same j g (yes e) there else u-free early =
              let a : place_in lw (target_of s j) ≡ place_in lw u = ap (place_in lw) e in
              let b : place_in (pushed lw k u) (target_of s j) ≡ place_in (pushed lw k u) u = ap (place_in (pushed lw k u)) e in
              up-late s i v j lw (pushed lw k u) (l + 1) (omega (arith, few-i)) (omega arith)
          same j g (no e) there else u-free early = up_same s i v j lw (pushed lw k u) (l + 1) (else (target_of s j) (declared.target j g) e)

    -- what a turn of the walk computes, from what its calls say
    source_free : 256 ≤ place_in w (source_of s l)
    source_free = free (degree_in w (source_of s l) - 1) refl

    visit-word : {u d : ℕ} → u ≡ source_of s l → d ≡ get_or w (marks_at + u) 0 → d ≡ degree_in w (source_of s l)
    visit-word eu ed = ed ∙ ap (λ (z : ℕ). get_or w (marks_at + z) 0) eu ∙ word-is w (source_of s l) source_free

    pub visit-degree : {u d : ℕ} → u ≡ source_of s l → d ≡ get_or w (marks_at + u) 0 → 1 ≤ d
    visit-degree {u} {d} eu ed = omega (arith, visit-word eu ed, some-degree (degree_in w (source_of s l) - 1) refl)

    pub visit-room : k < 256
    visit-room = omega (arith, queued-room (source_of s l) p.peel.queued (declared.source l l-in) source_free)

    module _ {u d e : ℕ} (eu : u ≡ source_of s l) (ed : d ≡ get_or w (marks_at + u) 0) (ee : e ≡ d - 1) where
      e-is : e ≡ degree_in w (source_of s l) - 1
      e-is = ee ∙ ap (λ (i : ℕ). i - 1) (visit-word eu ed)

      words : (w' : List ℕ) → w' ≡ set w (marks_at + u) e → w' ≡ set w (marks_at + source_of s l) e
      words w' h = h ∙ ap (λ (i : ℕ). set w (marks_at + i) e) eu

      pub visit-stays : (w' : List ℕ) → w' ≡ set w (marks_at + u) e → (d ≡ 1 → ⊥) → Grown k k w w' × Walking s i k (l + 1) v 0 0 w'
      visit-stays w' h n =
          let f = visit-degree eu ed in
          subst (λ (x : List ℕ). Grown k k w x × Walking s i k (l + 1) v 0 0 x) (sym (words w' h)) (grown-lit e e-is, stays e e-is (λ q. n (omega arith)))

      pub visit-goes : (w' w'' : List ℕ) → w' ≡ set w (marks_at + u) e → w'' ≡ pushed w' k u → d ≡ 1 → Grown k (k + 1) w w'' × Walking s i (k + 1) (l + 1) v 0 0 w''
      visit-goes w' w'' h g n =
          let q = goes e e-is (omega arith) in
          subst (λ (x : List ℕ). Grown k (k + 1) w x × Walking s i (k + 1) (l + 1) v 0 0 x) (sym (g ∙ ap₂ (λ (x : List ℕ) (i : ℕ). pushed x k i) (words w' h) eu)) (grown-trans (grown-lit e e-is) q.0, q.1)

  -- from one link into v to the next
  walking-hop : (i k j j' v : ℕ) → Walking s i k j v 0 0 w → j ≤ j' → ((l : ℕ) → l < link_count s → j ≤ l → l < j' → target_of s l ≢ v) → Walking s i k j' v 0 0 w
  walking-hop i k j j' v p h none =
      record { peel = peel-same (done_up_to s i j v w) (done_up_to s i j' v w) (λ l g. up-hop s i v l w j j' h (none l g)) p.peel; task = p.task; here = p.here }

  pub walk_begins : (i k v h : ℕ) → Chained Target s w → Walking s i k 0 v 0 0 w → h ≡ head_of Target w v → (h ≤ link_count s) × (h < link_count s → target_of s h ≡ v) × Walking s i k h v 0 0 w
  walk_begins i k v h d p e = (
    rw e (d.head_few v p.task),
    λ g. ap (target_of s) e ∙ d.head_own v p.task (rw e at g),
    walking-hop i k 0 h v p (omega arith) (λ l g a b. d.head_none v p.task l (rw e at b)),
  )

  pub walk_more : (i k v l h : ℕ) → Chained Target s w → Walking s i k (l + 1) v 0 0 w → l < link_count s → target_of s l ≡ v → h ≡ next_of Target w l → (h ≤ link_count s) × (h < link_count s → target_of s h ≡ v) × Walking s i k h v 0 0 w
  walk_more i k v l h d p g to e = (
    rw e (d.next_few l g),
    λ a. ap (target_of s) e ∙ d.next_own l g (rw e at a) ∙ to,
    walking-hop i k (l + 1) h v p (let x = d.next_more l g in omega arith) (λ j a b q r. d.next_none l g j (omega arith) (rw e at q) (r ∙ sym to)),
  )

  pub walk-far : (l h : ℕ) → Chained Target s w → l < link_count s → h ≡ next_of Target w l → l < h
  walk-far l h d g e = let x = d.next_more l g in omega arith

  pub walk-done : (i k v l : ℕ) → Walking s i k l v 0 0 w → link_count s ≤ l → Peeled s (i + 1) k 0 0 w
  walk-done i k v l p h =
      record { peel = peel-same (done_up_to s i l v w) (done_by s (i + 1) w) (λ j g. up-end s i v j w l (omega arith) p.here (λ q. only (target_of s j) (declared.target j g) q)) p.peel }
    where
      only : (t : ℕ) → t < task_count s → place_in w t ≡ i → t ≡ v
      only t g q =
          let a = queued-few p.peel.queued in
          let b = p.peel.early in
          let here = p.here in
          sym (p.peel.queued.back t g (omega arith)) ∙ ap (λ (z : ℕ). get_or w (queue_at + z) 0) (q ∙ sym here) ∙ p.peel.queued.back v p.task (omega arith)

  -- the next task of the queue is taken off: the walk over the links into it begins
  module _ (i k v y : ℕ) (p : Peeled s i k 0 0 w) (left : i < k) (v-is : v ≡ task_at w i) where
    pub take_in : v < task_count s
    take_in = rw v-is (p.peel.queued.task i left)

    pub take-place : place_in w v ≡ i
    take-place = ap (place_in w) v-is ∙ p.peel.queued.place i left

    pub taken : Walking s i k 0 v 0 0 (set w (levels_at + v) y)
    taken =
        record {
          peel = peel-same (done_by s i w) (done_up_to s i 0 v (set w (levels_at + v) y)) (λ l h. up_none s i v l w ∙ up_same s i v l w (set w (levels_at + v) y) 0 (same (target_of s l)))
              (peel-pop s w declared few long (done_by s i w) i k v y p.peel left take_in);
          task = take_in;
          here = same v ∙ take-place;
        }
      where
        same : (t : ℕ) → place_in (set w (levels_at + v) y) t ≡ place_in w t
        same = pop-same s w declared few long (done_by s i w) i k v y p.peel left take_in
