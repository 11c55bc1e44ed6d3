-- A ready task t goes on k from a to b: what becomes of all that is kept.
use Prim.Native.Nat.{ℕ, ◌+◌, ◌*◌, ◌<◌, max}
use mathlib.Core.Bool.{Bool, true, false, not, true≢false}
use mathlib.Core.Path.{◌≡◌, refl, ap, sym, ◌∙◌}
use mathlib.Core.Logic.{◌≢◌}
use mathlib.Core.List.{List}
use native.Mathlib.Omega.{arith}
use native.Mathlib.Decide.{ℕ_discrete}
use borrow.Author.Tests.{eq-eqb, ne_eqb, lt-ltb, le-ltb, eqb-true}
use lib.ListN.{get_or}
use lib.Seq.{get_or-set_same}
use lib.Dec.{eqb}
use Rattle.folds.specs.Folds.{pick, both, sum}
use Rattle.folds.proofs.Laws.{any_found, any-cong, sum-cong, greatest-cong, sum-point, greatest-point, sum-add}
use Rattle.sheet.specs.Sheet.{Sheet, task_count, link_count, source_of, target_of, cost_of, bytes_of, store_of}
use Rattle.planner.specs.Schedule.{Schedule, put, nowhere, placed, stands, place_of, finish_of}
use Rattle.planner.specs.Placing.{reach_by, end_by, end_of, store_by, bytes_by, store_on, is_open}
use Rattle.planner.proofs.Schedules.{on-other, finish-other, placed-other}
use Rattle.arrivals.specs.Layout.{seen_from, arrivals_from, senders_from, packed_from}
use Rattle.arrivals.specs.Kept.{counted_by, into, into_from, waits, one_by, known, Counted, Surveyed, Closed}
use Rattle.arrivals.specs.Steps.{up_to, Placeable, Landed, Released}
use Rattle.arrivals.proofs.Counts.{count-agree}
use Rattle.arrivals.proofs.Fours.{four-cong}

-- who stands on a processor is placed
pub stands-placed : (σ : Schedule) (k : ℕ) → k < 16 → (u : ℕ) → stands σ u k ≡ true → placed σ u ≡ true
unfolding stands placed
stands-placed σ k h u e = lt-ltb (place_of σ u) 16 (omega (arith, eqb-true (place_of σ u) k e))

module _ (s : Sheet) (σ : Schedule) (t k a b : ℕ) (g : Placeable s σ t k) where
  abbrev σ' : Schedule
  σ' = put σ t k a b

  pub place_same : place_of σ' t ≡ k
  unfolding place_of
  place_same = get_or-set_same σ.on t k nowhere (rw g.on_long g.task)

  pub finish-same : finish_of σ' t ≡ b
  unfolding finish_of
  finish-same = get_or-set_same σ.finish t b 0 (rw g.finish_long g.task)

  pub free_off : placed σ t ≡ false
  unfolding placed
  free_off = let e = g.free in le-ltb (place_of σ t) 16 (omega arith)

  pub now_on : placed σ' t ≡ true
  unfolding placed
  now_on = let e = place_same in let h = g.on in lt-ltb (place_of σ' t) 16 (omega arith)

  stands-other : (u j : ℕ) → u ≢ t → stands σ' u j ≡ stands σ u j
  unfolding stands
  stands-other u j d = ap (λ (x : ℕ). eqb x j) (on-other σ t k a b u d)

  stands-free : (j : ℕ) → j < 16 → stands σ t j ≡ false
  unfolding stands
  stands-free j h = let e = g.free in ne_eqb (place_of σ t) j (λ x. absurd (omega arith))

  stands-now : (j : ℕ) → stands σ' t j ≡ eqb k j
  unfolding stands
  stands-now j = ap (λ (x : ℕ). eqb x j) place_same

  pub not_t : (u : ℕ) → placed σ u ≡ true → u ≡ t → ⊥
  not_t u p e = true≢false (sym p ∙ ap (placed σ) e ∙ free_off)

  -- before any link out of t is lit
  known-first : (l : ℕ) → Dec (source_of s l ≡ t) → known s σ l ≡ up_to s σ' t 0 l
  unfolding up_to
  known-first l (yes e) = rw (e, free_off, now_on, eq-eqb t t refl, le-ltb l 0 (omega arith))
  known-first l (no e) = rw (ne_eqb (source_of s l) t e, placed-other σ t k a b (source_of s l) e) (both-same (placed σ (source_of s l)))
    where
      both-same : (x : Bool) → x ≡ both x true
      both-same true = refl
      both-same false = refl

  agree : (q q' : ℕ → Bool) (x x' : ℕ → ℕ) → ((l : ℕ) → (source_of s l ≡ t → ⊥) → (q l ≡ q' l) × (x l ≡ x' l)) → (l : ℕ) → counted_by q x (known s σ) l ≡ counted_by q' x' (up_to s σ' t 0) l
  agree q q' x x' h l = count-agree q q' x x' (known s σ) (up_to s σ' t 0) l (known-first l (ℕ_discrete (source_of s l) t)) (λ e. h l (not_t (source_of s l) e))

  same-reach : (l : ℕ) → (source_of s l ≡ t → ⊥) → reach_by s σ l ≡ reach_by s σ' l
  same-reach l d = ap (λ (x : ℕ). x + cost_of s l) (sym (finish-other σ t k a b (source_of s l) d))

  same_from : (u j l : ℕ) → (source_of s l ≡ t → ⊥) → into_from s σ u j l ≡ into_from s σ' u j l
  same_from u j l d = ap (λ (x : Bool). both (eqb (target_of s l) u) x) (sym (stands-other (source_of s l) j d))

  same-waits : (j l : ℕ) → source_of s l ≢ t → target_of s l ≢ t → waits s σ j l ≡ waits s σ' j l
  same-waits j l d n = rw (stands-other (source_of s l) j d, placed-other σ t k a b (target_of s l) n)

  none-into : (j l : ℕ) → target_of s l ≢ t → counted_by (into_from s σ t j) one_by (known s σ) l ≡ 0
  unfolding counted_by
  none-into j l n = rw (ne_eqb (target_of s l) t n)

  waits-else : (j l : ℕ) → target_of s l ≢ t → counted_by (waits s σ j) one_by (known s σ) l ≡ counted_by (waits s σ' j) one_by (up_to s σ' t 0) l
      → counted_by (waits s σ' j) one_by (up_to s σ' t 0) l + counted_by (into_from s σ t j) one_by (known s σ) l ≡ counted_by (waits s σ j) one_by (known s σ) l
  waits-else j l n e = omega (arith, none-into j l n)

  -- the links into t wait no more
  waits-term : (j l : ℕ) → l < link_count s → Dec (target_of s l ≡ t) → counted_by (waits s σ' j) one_by (up_to s σ' t 0) l + counted_by (into_from s σ t j) one_by (known s σ) l ≡ counted_by (waits s σ j) one_by (known s σ) l
  unfolding counted_by
  waits-term j l h (yes e) =
      let p = g.ready l h e in
      rw (e, now_on, free_off, p, eq-eqb t t refl) (go (stands σ' (source_of s l) j) (stands σ (source_of s l) j) (up_to s σ' t 0 l))
    where
      go : (x y z : Bool) → pick (both (both x false) z) 1 0 + pick (both (both true y) true) 1 0 ≡ pick (both (both y true) true) 1 0
      go true true z = refl
      go true false z = refl
      go false true z = refl
      go false false z = refl
  waits-term j l h (no e) =
      waits-else j l e (count-agree (waits s σ j) (waits s σ' j) one_by one_by (known s σ) (up_to s σ' t 0) l (known-first l (ℕ_discrete (source_of s l) t)) (λ p. (same-waits j l (not_t (source_of s l) p) e, refl)))

  pub waits-put : (j : ℕ) → sum (link_count s) (counted_by (waits s σ' j) one_by (up_to s σ' t 0)) + sum (link_count s) (counted_by (into_from s σ t j) one_by (known s σ)) ≡ sum (link_count s) (counted_by (waits s σ j) one_by (known s σ))
  waits-put j =
      sym (sum-add (link_count s) (counted_by (waits s σ' j) one_by (up_to s σ' t 0)) (counted_by (into_from s σ t j) one_by (known s σ)))
      ∙ sum-cong (link_count s) (λ l. counted_by (waits s σ' j) one_by (up_to s σ' t 0) l + counted_by (into_from s σ t j) one_by (known s σ) l) (counted_by (waits s σ j) one_by (known s σ)) (λ l h. waits-term j l h (ℕ_discrete (target_of s l) t))

  -- w with t released is w'
  pub counted-begins : (w w' : List ℕ) → Released 16 w w' → Surveyed s σ t w → Counted s σ (known s σ) w → Counted s σ' (up_to s σ' t 0) w'
  counted-begins w w' r v d =
      let few = g.ranged.few_tasks in
      record {
        seen = λ u h. r.low (seen_from + u) (omega arith) ∙ d.seen u h ∙ sum-cong (link_count s) _ _ (λ l p. agree (into s u) (into s u) one_by one_by (λ i q. (refl, refl)) l);
        arrived = λ u h. r.low (arrivals_from + u) (omega arith) ∙ d.arrived u h ∙ greatest-cong (link_count s) _ _ (λ l p. agree (into s u) (into s u) (reach_by s σ) (reach_by s σ') (λ i q. (refl, same-reach i q)) l);
        main =
            λ u h. let x = get_or w (senders_from + u) 0 in
            rw (r.low (senders_from + u) (omega arith))
            (r.low (arrivals_from + u) (omega arith) ∙ d.main u h ∙ greatest-cong (link_count s) _ _ (λ l p. agree (into_from s σ u x) (into_from s σ' u x) (reach_by s σ) (reach_by s σ') (λ i q. (same_from u x i q, same-reach i q)) l));
        pending = λ j h. omega (arith, r.pending j h, d.pending j h, v.number j h, waits-put j);
        packed =
            λ u j h f. r.high (packed_from + (4 * u + j)) (omega arith) ∙ d.packed u j h f
            ∙ four-cong _ _ (λ i n. sum-cong (link_count s) _ _ (λ l p. agree (into_from s σ u (4 * j + i)) (into_from s σ' u (4 * j + i)) one_by one_by (λ x q. (same_from u (4 * j + i) x q, refl)) l));
      }

  -- a successor of t is not placed, since t was not
  after_free : (l : ℕ) → l < link_count s → source_of s l ≡ t → (b : Bool) → placed σ (target_of s l) ≡ b → placed σ (target_of s l) ≡ false
  after_free l h e true q = absurd (not_t (source_of s l) (g.closed l h q) e)
  after_free l h e false q = q

  not-self : (l : ℕ) → l < link_count s → source_of s l ≡ t → target_of s l ≢ t
  not-self l h e q = not_t (source_of s l) (g.ready l h q) e

  pub landed : Landed s σ' t k b
  landed =
      record {
        on = now_on;
        place = place_same;
        finish = sym finish-same;
        before = λ l h e. placed-other σ t k a b (target_of s l) (not-self l h e) ∙ after_free l h e (placed σ (target_of s l)) refl;
      }

  pub closed-put : Closed s σ'
  closed-put l h p = go (ℕ_discrete (source_of s l) t) (ℕ_discrete (target_of s l) t)
    where
      go : Dec (source_of s l ≡ t) → Dec (target_of s l ≡ t) → placed σ' (source_of s l) ≡ true
      go (yes e) d = ap (placed σ') e ∙ now_on
      go (no e) (yes d) = placed-other σ t k a b (source_of s l) e ∙ g.ready l h d
      go (no e) (no d) = placed-other σ t k a b (source_of s l) e ∙ g.closed l h (sym (placed-other σ t k a b (target_of s l) d) ∙ p)

  -- the end of each processor
  end-term : (j : ℕ) → j < 16 → end_by s σ' j t ≡ max (end_by s σ j t) (pick (eqb k j) b 0)
  unfolding end_by
  end-term j h = rw (stands-now j, stands-free j h, finish-same) (omega arith)

  end_rest : (j u : ℕ) → u ≢ t → end_by s σ' j u ≡ end_by s σ j u
  unfolding end_by
  end_rest j u d = rw (stands-other u j d, finish-other σ t k a b u d)

  pub end-put : (j : ℕ) → j < 16 → end_of s σ' j ≡ max (end_of s σ j) (pick (eqb k j) b 0)
  unfolding end_of
  end-put j h = greatest-point (task_count s) (end_by s σ j) (end_by s σ' j) t (pick (eqb k j) b 0) g.task (end-term j h) (λ u l d. end_rest j u d)

  -- k is open, and of the others those that were
  pub open-now : is_open s σ' k ≡ true
  unfolding is_open
  open-now = any_found (task_count s) (λ u. stands σ' u k) t g.task (stands-now k ∙ eq-eqb k k refl)

  pub open-else : (j : ℕ) → j < 16 → j ≢ k → is_open s σ' j ≡ is_open s σ j
  unfolding is_open
  open-else j h d = any-cong (task_count s) (λ u. stands σ' u j) (λ u. stands σ u j) (λ u l. by u (ℕ_discrete u t))
    where
      by : (u : ℕ) → Dec (u ≡ t) → stands σ' u j ≡ stands σ u j
      by u (yes e) = rw e (stands-now j ∙ ne_eqb k j (λ x. d (sym x)) ∙ sym (stands-free j h))
      by u (no e) = stands-other u j e

  -- the store of each processor
  stores-term : (j : ℕ) → j < 16 → store_by s σ' j t ≡ store_by s σ j t + pick (eqb k j) (store_of s t) 0
  unfolding store_by
  stores-term j h = rw (stands-now j, stands-free j h) (omega arith)

  stores-rest : (j u : ℕ) → u ≢ t → store_by s σ' j u ≡ store_by s σ j u
  unfolding store_by
  stores-rest j u d = rw (stands-other u j d)

  stores-put : (j : ℕ) → j < 16 → sum (task_count s) (store_by s σ' j) ≡ sum (task_count s) (store_by s σ j) + pick (eqb k j) (store_of s t) 0
  stores-put j h = sum-point (task_count s) (store_by s σ j) (store_by s σ' j) t (pick (eqb k j) (store_of s t) 0) g.task (stores-term j h) (λ u l d. stores-rest j u d)

  stands-else : (u j : ℕ) → j < 16 → j ≢ k → Dec (u ≡ t) → stands σ' u j ≡ stands σ u j
  stands-else u j h d (yes e) = rw (e, stands-now j, stands-free j h) (ne_eqb k j (λ x. d (sym x)))
  stands-else u j h d (no e) = stands-other u j e

  bytes-else : (j l : ℕ) → j < 16 → j ≢ k → bytes_by s σ' j l ≡ bytes_by s σ j l
  unfolding bytes_by
  bytes-else j l h d = rw (stands-else (target_of s l) j h d (ℕ_discrete (target_of s l) t), stands-else (source_of s l) j h d (ℕ_discrete (source_of s l) t))

  bytes-term : (l : ℕ) → l < link_count s → Dec (target_of s l ≡ t) → (x : Bool) → stands σ (target_of s l) k ≡ x → bytes_by s σ' k l + counted_by (into_from s σ t k) (bytes_of s) (known s σ) l ≡ bytes_by s σ k l + counted_by (into s t) (bytes_of s) (λ l. true) l
  unfolding bytes_by counted_by
  bytes-term l h (yes d) x e =
      rw (d, stands-now k, stands-other (source_of s l) k (not_t (source_of s l) (g.ready l h d)), stands-free k g.on, eq-eqb k k refl, eq-eqb t t refl, g.ready l h d) (go (stands σ (source_of s l) k))
    where
      go : (y : Bool) → pick (both true (not y)) (bytes_of s l) 0 + pick (both (both true y) true) (bytes_of s l) 0 ≡ pick (both false (not y)) (bytes_of s l) 0 + bytes_of s l
      go true = omega arith
      go false = omega arith
  bytes-term l h (no d) true e =
      let o = not_t (source_of s l) (g.closed l h (stands-placed σ k g.on (target_of s l) e)) in
      rw (stands-other (target_of s l) k d, stands-other (source_of s l) k o, ne_eqb (target_of s l) t d)
  bytes-term l h (no d) false e = rw (stands-other (target_of s l) k d, e, ne_eqb (target_of s l) t d)

  bytes-put : sum (link_count s) (bytes_by s σ' k) + sum (link_count s) (counted_by (into_from s σ t k) (bytes_of s) (known s σ)) ≡ sum (link_count s) (bytes_by s σ k) + sum (link_count s) (counted_by (into s t) (bytes_of s) (λ l. true))
  bytes-put =
      sym (sum-add (link_count s) (bytes_by s σ' k) (counted_by (into_from s σ t k) (bytes_of s) (known s σ))) ∙
      sum-cong (link_count s) _ _ (λ l h. bytes-term l h (ℕ_discrete (target_of s l) t) (stands σ (target_of s l) k) refl) ∙
      sum-add (link_count s) (bytes_by s σ k) (counted_by (into s t) (bytes_of s) (λ l. true))

  pub store-put : store_on s σ' k + sum (link_count s) (counted_by (into_from s σ t k) (bytes_of s) (known s σ)) ≡ store_on s σ k + store_of s t + sum (link_count s) (counted_by (into s t) (bytes_of s) (λ l. true))
  unfolding store_on
  store-put =
      let x = bytes-put in
      let y : sum (task_count s) (store_by s σ' k) ≡ sum (task_count s) (store_by s σ k) + store_of s t = stores-put k g.on ∙ rw (eq-eqb k k refl) in
      omega arith

  pub store-else : (j : ℕ) → j < 16 → j ≢ k → store_on s σ' j ≡ store_on s σ j
  unfolding store_on
  store-else j h d =
      let x : sum (link_count s) (bytes_by s σ' j) ≡ sum (link_count s) (bytes_by s σ j) = sum-cong (link_count s) _ _ (λ l p. bytes-else j l h d) in
      let y : sum (task_count s) (store_by s σ' j) ≡ sum (task_count s) (store_by s σ j) + 0 = stores-put j h ∙ rw (ne_eqb k j (λ x. d (sym x))) in
      omega arith
