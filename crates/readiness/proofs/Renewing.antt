-- The table of keys, when the keys of one task are renewed, and along the links of a task that was placed.
use Prim.Native.Nat.{ℕ, ◌+◌, ◌*◌, ◌≤◌, ◌<◌}
use mathlib.Core.Bool.{Bool, true, false, not, true≢false}
use mathlib.Core.Path.{◌≡◌, refl, ap, ap₂, sym, ◌∙◌, subst}
use mathlib.Core.Logic.{◌≢◌, ⊎_elim}
use mathlib.Core.List.{List}
use native.Mathlib.Omega.{arith}
use native.Mathlib.Decide.{ℕ_discrete, dec_lt}
use borrow.Author.Tests.{eq-eqb, ne_eqb, eqb-true}
use lib.ListN.{get_or, replicate, length-replicate}
use lib.Dec.{eqb}
use Rattle.folds.specs.Folds.{pick, both, either, any, greatest}
use Rattle.folds.proofs.Tests.{equal-or, both_false, both-parts, parts-both, pick-le}
use Rattle.folds.proofs.Lists.{get_d_replicate}
use Rattle.folds.proofs.Laws.{greatest-le, greatest-mono, greatest-cong, any_found, none_any, any-cong, all-cong}
use Rattle.readiness.specs.Keys.{key_by, Blocked, Changed}
use Rattle.sheet.specs.Sheet.{Sheet, task_count, link_count, source_of, target_of, cost_of}
use Rattle.sheet.specs.Tables.{Ranged}
use Rattle.graph.specs.Graph.{level}
use Rattle.planner.specs.Schedule.{Schedule, placed, finish_of, put}
use Rattle.planner.specs.Placing.{comes, lacks, satisfied, ready, partly_ready, reach_by, arrival_by, arrival, priority, ready_arrival, ready_priority}
use Rattle.planner.proofs.Ready.{ready-source}
use Rattle.planner.proofs.Unpacking.{unpacked-cong}
use Rattle.planner.proofs.Schedules.{finish-other, placed-other}
use Rattle.adjacency.specs.Chains.{head_of, next_of, Chained}
use Rattle.adjacency.specs.declared.End.TheVariants.{Source}
use Rattle.arrivals.specs.Kept.{Single}
use Rattle.arrivals.specs.Steps.{Placeable}
use Rattle.arrivals.proofs.Placing.{free_off, not_t, now_on, landed}
use Rattle.readiness.proofs.Counts.{placed-ready, placed-partly}
use Rattle.readiness.specs.Keyed.{key_of, ready_key, partly_key, Fresh, Blank, Renewed, Waiting, Keyed, KeyedTo, Passed, KeyedPast, KeyedBeside}

pub ready-key : (s : Sheet) (σ : Schedule) (t : ℕ) {r x : ℕ} {b : Bool} → r ≡ pick b x 0 → b ≡ ready s σ t → x ≡ key_of s (ready_priority s σ t) t → r ≡ ready_key s σ t
unfolding ready_key
ready-key s σ t e eb ex = e ∙ ap₂ (λ (b : Bool) (x : ℕ). pick b x 0) eb ex

pub partly-key : (s : Sheet) (σ : Schedule) (t : ℕ) {r x : ℕ} {b : Bool} → r ≡ pick b x 0 → b ≡ partly_ready s σ t → x ≡ key_of s (priority s σ t) t → r ≡ partly_key s σ t
unfolding partly_key
partly-key s σ t e eb ex = e ∙ ap₂ (λ (b : Bool) (x : ℕ). pick b x 0) eb ex

-- keys by the arrivals
pub ready_by : (s : Sheet) (σ : Schedule) (t : ℕ) {a x : ℕ} → x ≡ key_of s (a + level s t) t → a ≡ ready_arrival s σ t → x ≡ key_of s (ready_priority s σ t) t
unfolding ready_priority
ready_by s σ t e ea = e ∙ ap (λ (a : ℕ). key_of s (a + level s t) t) ea

pub partly-by : (s : Sheet) (σ : Schedule) (t : ℕ) {a x : ℕ} → x ≡ key_of s (a + level s t) t → a ≡ arrival s σ t → x ≡ key_of s (priority s σ t) t
unfolding priority
partly-by s σ t e ea = e ∙ ap (λ (a : ℕ). key_of s (a + level s t) t) ea

-- key i stays
pub as-was : {q : List ℕ} → Blocked q → (i : ℕ) → Changed q q i (get_or q i 0)
as-was b i = record { blocked = b; here = refl; others = λ j l n. refl }

module _ {s : Sheet} {σ : Schedule} where
  pub renewed-by : {q q₁ q₂ : List ℕ} {t x y : ℕ} → t < 256 → Changed q q₁ t x → Changed q₁ q₂ (256 + t) y → x ≡ ready_key s σ t → y ≡ partly_key s σ t → Renewed s σ q q₂ t
  renewed-by h c d ex ey =
      record {
        blocked = d.blocked;
        fresh = record { ready = d.others _ (omega arith) (omega arith) ∙ c.here ∙ ex; partly = d.here ∙ ey };
        ready = λ v l n. d.others v (omega arith) (omega arith) ∙ c.others v (omega arith) n;
        partly = λ v l n. d.others (256 + v) (omega arith) (λ e. n (omega arith)) ∙ c.others (256 + v) (omega arith) (omega arith);
      }

  module _ {q q' : List ℕ} {t : ℕ} (r : Renewed s σ q q' t) where
    still-fresh : {u : ℕ} → u < 256 → u ≢ t → Fresh s σ q u → Fresh s σ q' u
    still-fresh {u} h n f = record { ready = r.ready u h n ∙ f.ready; partly = r.partly u h n ∙ f.partly }

    still-blank : {u : ℕ} → u < 256 → u ≢ t → Blank q u → Blank q' u
    still-blank {u} h n f = record { ready = r.ready u h n ∙ f.ready; partly = r.partly u h n ∙ f.partly }

    still-waiting : {u : ℕ} → u < 256 → u ≢ t → Waiting s σ q u → Waiting s σ q' u
    still-waiting {u} h n f = record { free = f.free; known = f.known; ready = r.ready u h n ∙ f.ready; partly = omega (arith, r.partly u h n, f.partly) }

    now-fresh : {u : ℕ} → u < 256 → (u ≢ t → Fresh s σ q u) → Fresh s σ q' u
    now-fresh {u} h f = ⊎_elim (λ e. rw e r.fresh) (λ n. still-fresh h n (f n)) (equal-or u t)

    -- one more task
    pub keyed-more : t < 256 → KeyedTo s σ t q → KeyedTo s σ (t + 1) q'
    keyed-more h k =
        record {
          blocked = r.blocked;
          fresh = λ u l. now-fresh (omega arith) (λ n. k.fresh u (omega arith));
          blank = λ u l m. still-blank m (omega arith) (k.blank u (omega arith) m);
        }

  -- the keys of a placed task
  gone : {q q' : List ℕ} (t : ℕ) → t < 256 → placed σ t ≡ true → get_or q (256 + t) 0 ≡ 0 → Changed q q' t 0 → Renewed s σ q q' t
  gone t h on p c =
      renewed-by h c (as-was c.blocked (256 + t)) (ready-key s σ t {b = false} refl (placed-ready s σ t on) refl)
      (partly-key s σ t {b = false} (c.others (256 + t) (omega arith) (omega arith) ∙ p) (placed-partly s σ t on) refl)

  -- the task itself
  pub past-begins : {q q' : List ℕ} (t : ℕ) → Ranged s → t < task_count s → Changed q q' t 0 → KeyedBeside s σ t q → KeyedPast s σ t 0 q'
  past-begins t ranged h c k =
      let r = gone t (omega (arith, ranged.few_tasks)) k.on k.partly c in
      record {
        blocked = r.blocked;
        fresh = λ u l p. now-fresh r (omega (arith, ranged.few_tasks)) (λ n. k.fresh u l n p);
        waiting = λ i l m o. let f = k.waiting i m o in still-waiting r (omega (arith, ranged.few_tasks, ranged.target i m)) (λ e. true≢false (sym k.on ∙ ap (placed σ) (sym e) ∙ f.free)) f;
        blank = λ u l m. still-blank r m (omega arith) (k.blank u l m);
      }

  pub keyed-at : {t : ℕ} {q : List ℕ} → KeyedTo s σ t q → t ≡ task_count s → Keyed s σ q
  keyed-at {q = q} k e = record { keys = subst (λ (n : ℕ). KeyedTo s σ n q) e k }

  -- a table of noughts
  pub keyed-none : {q : List ℕ} → q ≡ replicate 544 0 → KeyedTo s σ 0 q
  unfolding key_by
  keyed-none e =
      rw e
      (record {
        blocked =
            record {
              long = length-replicate {A = ℕ} 544 0;
              most = λ b h. nought (512 + b) ∙ sym (none (16 * b));
            };
        fresh = λ u h. absurd (omega arith);
        blank = λ u h l. record { ready = nought u; partly = nought (256 + u) };
      })
    where
      nought : (i : ℕ) → ◌≡◌ {A = ℕ} (get_or (replicate 544 0) i 0) 0
      nought i = get_d_replicate {A = ℕ} 544 i 0

      none : (at : ℕ) → greatest 16 (key_by (replicate 544 0) at) ≡ 0
      none at = omega (arith, greatest-le 16 (key_by (replicate 544 0) at) 0 (λ i h. omega (arith, nought (at + i))))

  -- the links from t, chained
  module _ {w : List ℕ} (chained : Chained Source s w) (ranged : Ranged s) (t : ℕ) (h : t < task_count s) where
    -- at the first link
    pub past_first : {l : ℕ} {q : List ℕ} → l ≡ head_of Source w t → KeyedPast s σ t 0 q → KeyedPast s σ t l q
    past_first {l} e k =
        record {
          blocked = k.blocked;
          fresh = λ u m p. k.fresh u m (record { none_leads = λ i a b o. go p i b o (dec_lt i l) });
          waiting = λ i a b o. k.waiting i (omega arith) b o;
          blank = k.blank;
        }
      where
        go : {u : ℕ} → Passed s t l u → (i : ℕ) → i < link_count s → source_of s i ≡ t → Dec (i < l) → target_of s i ≢ u
        go p i b o (yes c) = absurd (chained.head_none t h i (omega (arith, e)) o)
        go p i b o (no c) = p.none_leads i (omega arith) b o

    -- from one link to the next, whose task has its keys now
    pub past_next : Single s → {l l' v : ℕ} {q q' : List ℕ} → l < link_count s → source_of s l ≡ t → l' ≡ next_of Source w l → v ≡ target_of s l → Renewed s σ q q' v → KeyedPast s σ t l q → KeyedPast s σ t l' q'
    past_next single {l} {l'} {v} b own e ev r g =
        record {
          blocked = r.blocked;
          fresh = λ u m p. now-fresh r (omega (arith, ranged.few_tasks)) (λ n. g.fresh u m (record { none_leads = λ i a c o. go n p i a c o (ℕ_discrete i l) (dec_lt i l') }));
          waiting =
              λ i a c o. still-waiting r (omega (arith, ranged.few_tasks, ranged.target i c))
              (λ d. absurd (omega (arith, e, chained.next_more l b, single.once i l c b (o ∙ sym own) (d ∙ ev)))) (g.waiting i (omega (arith, e, chained.next_more l b)) c o);
          blank = λ u m c. still-blank r c (omega (arith, ev, ranged.target l b)) (g.blank u m c);
        }
      where
        go : {u : ℕ} → u ≢ v → Passed s t l' u → (i : ℕ) → l ≤ i → i < link_count s → source_of s i ≡ t → Dec (i ≡ l) → Dec (i < l') → target_of s i ≢ u
        go n p i a c o (yes d) f = λ x. n (sym x ∙ ap (target_of s) d ∙ sym ev)
        go n p i a c o (no d) (yes f) = absurd (chained.next_none l b i (omega arith) (omega (arith, e)) (o ∙ sym own))
        go n p i a c o (no d) (no f) = p.none_leads i (omega arith) c o

  pub target-waits : {t l v : ℕ} {q : List ℕ} → v ≡ target_of s l → l < link_count s → source_of s l ≡ t → KeyedPast s σ t l q → Waiting s σ q v
  target-waits {l = l} e h own k = rw e (k.waiting l (omega arith) h own)

  pub past_all : {t l : ℕ} {q : List ℕ} → link_count s ≤ l → KeyedPast s σ t l q → Keyed s σ q
  past_all h k = record { keys = record { blocked = k.blocked; fresh = λ u m. k.fresh u m (record { none_leads = λ i a b o. absurd (omega arith) }); blank = k.blank } }

-- t goes on k: the keys of all tasks stay, but for those of t and of its successors
module _ (s : Sheet) (σ : Schedule) (t k a f : ℕ) where
  abbrev σ' : Schedule
  σ' = put σ t k a f

  module _ (u : ℕ) (n : u ≢ t) (p : Passed s t 0 u) where
    -- what is asked of a link into u stays
    source-same : (l : ℕ) → l < link_count s → target_of s l ≡ u → (placed σ' (source_of s l) ≡ placed σ (source_of s l)) × (finish_of σ' (source_of s l) ≡ finish_of σ (source_of s l))
    source-same l h e =
        let away : source_of s l ≢ t = λ o. p.none_leads l (omega arith) h o e in
        (placed-other σ t k a f (source_of s l) away, finish-other σ t k a f (source_of s l) away)

    comes-same : (l : ℕ) → l < link_count s → comes s σ' u l ≡ comes s σ u l
    unfolding comes
    comes-same l h = go (ℕ_discrete (target_of s l) u)
      where
        go : Dec (target_of s l ≡ u) → both (eqb (target_of s l) u) (placed σ' (source_of s l)) ≡ both (eqb (target_of s l) u) (placed σ (source_of s l))
        go (yes e) = ap (both (eqb (target_of s l) u)) (source-same l h e).0
        go (no e) = rw (ne_eqb (target_of s l) u e)

    lacks-same : (l : ℕ) → l < link_count s → lacks s σ' u l ≡ lacks s σ u l
    unfolding lacks
    lacks-same l h = go (ℕ_discrete (target_of s l) u)
      where
        go : Dec (target_of s l ≡ u) → both (eqb (target_of s l) u) (not (placed σ' (source_of s l))) ≡ both (eqb (target_of s l) u) (not (placed σ (source_of s l)))
        go (yes e) = ap (λ (b : Bool). both (eqb (target_of s l) u) (not b)) (source-same l h e).0
        go (no e) = rw (ne_eqb (target_of s l) u e)

    satisfied-same : (l : ℕ) → l < link_count s → satisfied s σ' u l ≡ satisfied s σ u l
    unfolding satisfied
    satisfied-same l h = go (ℕ_discrete (target_of s l) u)
      where
        go : Dec (target_of s l ≡ u) → either (not (eqb (target_of s l) u)) (placed σ' (source_of s l)) ≡ either (not (eqb (target_of s l) u)) (placed σ (source_of s l))
        go (yes e) = ap (either (not (eqb (target_of s l) u))) (source-same l h e).0
        go (no e) = rw (ne_eqb (target_of s l) u e)

    arrival-by-same : (l : ℕ) → l < link_count s → arrival_by s σ' u l ≡ arrival_by s σ u l
    unfolding arrival_by comes
    arrival-by-same l h = go (ℕ_discrete (target_of s l) u)
      where
        go : Dec (target_of s l ≡ u) → pick (both (eqb (target_of s l) u) (placed σ' (source_of s l))) (finish_of σ' (source_of s l) + cost_of s l) 0 ≡ pick (both (eqb (target_of s l) u) (placed σ (source_of s l))) (finish_of σ (source_of s l) + cost_of s l) 0
        go (yes e) = rw ((source-same l h e).0, (source-same l h e).1)
        go (no e) = rw (ne_eqb (target_of s l) u e)

    unplaced-same : not (placed σ' u) ≡ not (placed σ u)
    unplaced-same = ap not (placed-other σ t k a f u n)

    ready-same : ready s σ' u ≡ ready s σ u
    unfolding ready
    ready-same = ap₂ both unplaced-same (all-cong (link_count s) (satisfied s σ' u) (satisfied s σ u) satisfied-same)

    partly-same : partly_ready s σ' u ≡ partly_ready s σ u
    unfolding partly_ready
    partly-same = ap₂ both unplaced-same (ap₂ both (any-cong (link_count s) (comes s σ' u) (comes s σ u) comes-same) (any-cong (link_count s) (lacks s σ' u) (lacks s σ u) lacks-same))

    priority-same : priority s σ' u ≡ priority s σ u
    unfolding priority arrival
    priority-same = rw (greatest-cong (link_count s) (arrival_by s σ' u) (arrival_by s σ u) arrival-by-same)

    reach-same : (l : ℕ) → l < link_count s → comes s σ' u l ≡ true → reach_by s σ' l ≡ reach_by s σ l
    unfolding comes
    reach-same l h e = rw (source-same l h (eqb-true (target_of s l) u (both-parts (eqb (target_of s l) u) (placed σ' (source_of s l)) e).0)).1

    ready-priority-same : ready_priority s σ' u ≡ ready_priority s σ u
    unfolding ready_priority ready_arrival
    ready-priority-same = rw (unpacked-cong s (comes s σ' u) (comes s σ u) (reach_by s σ') (reach_by s σ) 0 (link_count s) comes-same reach-same)

    stays-fresh : {q : List ℕ} → Fresh s σ q u → Fresh s σ' q u
    unfolding ready_key partly_key
    stays-fresh c = record { ready = rw (ready-same, ready-priority-same) c.ready; partly = rw (partly-same, priority-same) c.partly }

  module _ (g : Placeable s σ t k) where
    -- of the messages to u none was later before
    arrival-by-rises : (u l : ℕ) → arrival_by s σ u l ≤ arrival_by s σ' u l
    unfolding arrival_by comes
    arrival-by-rises u l = go (ℕ_discrete (source_of s l) t)
      where
        go : Dec (source_of s l ≡ t) → pick (both (eqb (target_of s l) u) (placed σ (source_of s l))) (finish_of σ (source_of s l) + cost_of s l) 0 ≤ pick (both (eqb (target_of s l) u) (placed σ' (source_of s l))) (finish_of σ' (source_of s l) + cost_of s l) 0
        go (yes e) = rw (e, free_off s σ t k a f g, both_false (eqb (target_of s l) u)) (omega arith)
        go (no e) = rw (placed-other σ t k a f (source_of s l) e, finish-other σ t k a f (source_of s l) e) (omega arith)

    key-rises : (u : ℕ) → key_of s (priority s σ u) u ≤ key_of s (priority s σ' u) u
    unfolding key_of priority arrival
    key-rises u = omega (arith, greatest-mono (link_count s) (arrival_by s σ u) (arrival_by s σ' u) (λ l h. arrival-by-rises u l))

    -- a link from t leads to u
    module _ (i : ℕ) (h : i < link_count s) (o : source_of s i ≡ t) where
      abbrev u : ℕ
      u = target_of s i

      not-ready : (b : Bool) → ready s σ u ≡ b → ready_key s σ u ≡ 0
      unfolding ready_key
      not-ready true e = absurd (not_t s σ t k a f g (source_of s i) (ready-source s σ u i e h refl) o)
      not-ready false e = rw e

      waits : {q : List ℕ} → Fresh s σ q u → Waiting s σ' q u
      unfolding comes partly_key
      waits c =
          let now = landed s σ t k a f g in
          record {
            free = now.before i h o;
            known = any_found (link_count s) (comes s σ' u) i h (parts-both (eqb u u) (placed σ' (source_of s i)) (eq-eqb u u refl) (ap (placed σ') o ∙ now.on));
            ready = c.ready ∙ not-ready (ready s σ u) refl;
            partly = omega (arith, c.partly, pick-le (partly_ready s σ u) (key_of s (priority s σ u) u) 0 (key_of s (priority s σ u) u) (omega arith) (omega arith), key-rises u);
          }

    -- t, whose predecessors are placed, was not partly ready
    not-partly : partly_key s σ t ≡ 0
    unfolding partly_key partly_ready lacks
    not-partly = rw (none_any (link_count s) (lacks s σ t) (λ l h. go l h (ℕ_discrete (target_of s l) t)), both_false (any (link_count s) (comes s σ t)), both_false (not (placed σ t)))
      where
        go : (l : ℕ) → l < link_count s → Dec (target_of s l ≡ t) → both (eqb (target_of s l) t) (not (placed σ (source_of s l))) ≡ false
        go l h (yes e) = rw (g.ready l h e) (both_false (eqb (target_of s l) t))
        go l h (no e) = rw (ne_eqb (target_of s l) t e)

    pub keyed-beside : {q : List ℕ} → Keyed s σ q → KeyedBeside s σ' t q
    keyed-beside c =
        record {
          blocked = c.keys.blocked;
          on = now_on s σ t k a f g;
          partly = (c.keys.fresh t g.task).partly ∙ not-partly;
          fresh = λ u h n p. stays-fresh u n p (c.keys.fresh u h);
          waiting = λ i h o. waits i h o (c.keys.fresh (target_of s i) (g.ranged.target i h));
          blank = c.keys.blank;
        }
