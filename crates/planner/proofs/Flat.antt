-- Of a sheet without `48` every plan and listing is what it was before C-20: there every message takes its cost, and processors are opened in turn.
use Prim.Native.Nat.{ℕ, zero, suc, ◌+◌, ◌≤◌, ◌<◌, max, min}
use native.Mathlib.Omega.{arith}
use native.Mathlib.Decide.{dec_lt}
use mathlib.Core.Bool.{Bool, true, false, not, false≢true}
use mathlib.Core.Option.{Option, none, some}
use mathlib.Core.Path.{◌≡◌, refl, sym, ap, ap₂, subst, ◌∙◌}
use mathlib.Core.Logic.{◌≢◌, ◌⊎◌, inl, inr, ⊎_elim}
use lib.ListN.{length, get_or, set}
use lib.Seq.{get_or-set_same, get_or-set_other, set_out}
use lib.Dec.{eqb, ltb, leb}
use borrow.Author.Tests.{eq-eqb, lt-ltb, le-ltb, ne_eqb}
use Rattle.folds.specs.Folds.{pick, bit, both, any, sum, greatest, first, leading, least, prefer, keep, or_else, is_some}
use Rattle.folds.specs.Answers.{Answer, value, refused, and_then}
use Rattle.folds.proofs.Tests.{equal-or, not_some, not-value}
use Rattle.folds.proofs.Laws.{any_found, any_some, none_any, greatest-le, greatest-cong, sum-cong, first_some, first_cong, first_found, none_first}
use Rattle.sheet.specs.Sheet.{Sheet, task_count, link_count, work_of, source_of, target_of, cost_of}
use Rattle.sheet.specs.Hops.{link_time}
use Rattle.sheet.proofs.Hopping.{flat-time}
use Rattle.graph.proofs.Proper.{Proper}
use Rattle.planner.specs.Schedule.{Schedule, nowhere, empty, place_of, finish_of, placed, stands, put}
use Rattle.planner.specs.Placing.{comes, ready, reach_by, reach_on, priority, unpacked, ready_priority, ready_arrival, ahead_by, first_ready, first_partly_ready, end_by, end_of, start_by, start_from, elsewhere, near_by, start_on, store_by, bytes_by, store_on, fits, holds_predecessor, start_with, start_at, best_start, ends_with, delays, barred_for, barred, is_open, spent}
use Rattle.planner.specs.Planner.{may_join, join, may_take, idle, may_open, another, may_share, share, may_crowd, last_resort, choice, place_on, place_task, turn, turns, planned_by, planned, running}
use Rattle.planner.specs.Flat.{start_by_flat, start_from_flat, start_on_flat, start_with_flat, start_at_flat, best_start_flat, ends_with_flat, delays_flat, barred_for_flat, barred_flat, opens_flat, another_flat, may_join_flat, join_flat, may_take_flat, idle_flat, may_share_flat, share_flat, last_resort_flat, place_on_flat, choice_flat, place_task_flat, turns_flat, planned_by_flat, planned_flat}
use Rattle.planner.proofs.Unpacking.{unpacked-cong}
use Rattle.planner.proofs.Schedules.{Fair, place, Placing, on_same, stands-other, fair-place, empty-fair}
use Rattle.planner.proofs.Choosing.{leading-some, leading-cong, least-cong, or_else-some, chosen}

-- of equals the lowest
leading-first : (n : ℕ) (p : ℕ → Bool) (a : ℕ → ℕ → Bool) → ((i j : ℕ) → i < n → j < n → p i ≡ true → p j ≡ true → a i j ≡ false) → leading n p a ≡ first n p
unfolding leading first
leading-first zero p a h = refl
leading-first (suc n) p a h = rw (leading-first n p a (λ i j l m. h i j (omega arith) (omega arith))) (by (first n p) (p n) refl refl)
  where
    by : (o : Option ℕ) (u : Bool) → first n p ≡ o → p n ≡ u → pick u (prefer a n o) o ≡ keep o u n
    by none true q e = refl
    by none false q e = refl
    by (some j) false q e = refl
    by (some j) true q e = let m = first_some n p j q in rw (h n j (omega arith) (omega (arith, m.0)) e m.1)

module _ (s : Sheet) (flat : s.cube ≡ false) where
  start-by : (σ : Schedule) (t k l : ℕ) → start_by s σ t k l ≡ start_by_flat s σ t k l
  unfolding start_by start_by_flat
  start-by σ t k l = rw (flat-time s l (place_of σ (source_of s l)) k flat)

  from-same : (σ : Schedule) (t k e : ℕ) → start_from s σ t k e ≡ start_from_flat s σ t k e
  unfolding start_from start_from_flat
  from-same σ t k e = ap (max e) (greatest-cong (link_count s) (start_by s σ t k) (start_by_flat s σ t k) (λ l h. start-by σ t k l))

  start-same : (σ : Schedule) (t k : ℕ) → start_on s σ t k ≡ start_on_flat s σ t k
  unfolding start_on start_on_flat
  start-same σ t k =
      ap (λ (x : ℕ). max x (greatest (link_count s) (near_by s σ t k)))
      (unpacked-cong s (elsewhere s σ t k) (elsewhere s σ t k) (reach_on s σ k) (reach_by s σ) (end_of s σ k) (link_count s) (λ l h. refl)
      (λ l h e. ap (λ (x : ℕ). finish_of σ (source_of s l) + x) (flat-time s l (place_of σ (source_of s l)) k flat)))

  -- the guard
  best-same : (σ : Schedule) (e f : ℕ → ℕ) (u : ℕ) → ((k : ℕ) → e k ≡ f k) → best_start s σ e u ≡ best_start_flat s σ f u
  unfolding best_start best_start_flat start_with start_with_flat
  best-same σ e f u h =
      ap (start_at s σ e u) (least-cong σ.opened (holds_predecessor s σ u) (holds_predecessor s σ u) (start_with s σ e u) (start_with_flat s σ f u) (λ i l. refl) with-same) ∙
      at_same (least σ.opened (holds_predecessor s σ u) (start_with_flat s σ f u))
    where
      with-same : (k : ℕ) → start_with s σ e u k ≡ start_with_flat s σ f u k
      with-same k = from-same σ u k (e k) ∙ ap (start_from_flat s σ u k) (h k)

      at_same : (o : Option ℕ) → start_at s σ e u o ≡ start_at_flat s σ f u o
      at_same none = refl
      at_same (some k) = with-same k

  ends_same : (σ : Schedule) (t k j : ℕ) → ends_with s σ t k j ≡ ends_with_flat s σ t k j
  unfolding ends_with ends_with_flat
  ends_same σ t k j = rw (start-same σ t k)

  delays-same : (σ : Schedule) (t u k : ℕ) → delays s σ t u k ≡ delays_flat s σ t u k
  unfolding delays delays_flat
  delays-same σ t u k = rw (best-same σ (end_of s σ) (end_of s σ) u (λ k. refl), best-same σ (ends_with s σ t k) (ends_with_flat s σ t k) u (ends_same σ t k))

  barred-same : (σ : Schedule) (t k : ℕ) → barred s σ t k ≡ barred_flat s σ t k
  unfolding barred barred_flat
  barred-same σ t k = by (first_partly_ready s σ)
    where
      by : (o : Option ℕ) → barred_for s σ t k o ≡ barred_for_flat s σ t k o
      by none = refl
      by (some u) = rw (delays-same σ t u k)

  -- a schedule that opened its processors in turn
  module _ (proper : Proper s) (σ : Schedule) (fair : Fair s σ) (dense : (k : ℕ) → k < σ.opened → is_open s σ k ≡ true) where
    above : (k u : ℕ) → σ.opened ≤ k → k < nowhere → stands σ u k ≡ false
    unfolding stands placed
    above k u h l = ne_eqb (place_of σ u) k (λ q. absurd (omega (arith, fair.home u (lt-ltb (place_of σ u) nowhere (omega arith)))))

    shut : (k : ℕ) → σ.opened ≤ k → k < nowhere → is_open s σ k ≡ false
    unfolding is_open
    shut k h l = none_any (task_count s) (λ u. stands σ u k) (λ u m. above k u h l)

    module _ (t : ℕ) where
      join-same : join s (barred s) σ t ≡ join_flat s (barred_flat s) σ t
      unfolding join may_join join_flat may_join_flat
      join-same =
          least-cong σ.opened (may_join s (barred s) σ t) (may_join_flat s (barred_flat s) σ t) (start_on s σ t) (start_on_flat s σ t)
          (λ k l. rw (barred-same σ t k, start-same σ t k)) (start-same σ t)

      idle-same : idle s (barred s) σ t ≡ idle_flat s (barred_flat s) σ t
      unfolding idle may_take idle_flat may_take_flat
      idle-same =
          leading-cong σ.opened (may_take s (barred s) σ t) (may_take_flat s (barred_flat s) σ t) (λ a b. ltb (end_of s σ b) (end_of s σ a)) (λ a b. ltb (end_of s σ b) (end_of s σ a))
          (λ k l. rw (dense k l)) (λ i j. refl)

      last-same : last_resort s (barred s) σ t ≡ last_resort_flat s (barred_flat s) σ t
      unfolding last_resort may_crowd last_resort_flat
      last-same = least-cong σ.opened (may_crowd s (barred s) σ t) (fits s σ t) (start_on s σ t) (start_on_flat s σ t) (λ k l. rw (dense k l)) (start-same σ t)

      sharing-same : first σ.opened (may_share s (barred s) σ t) ≡ first σ.opened (may_share_flat s (barred_flat s) σ t)
      unfolding may_share may_share_flat
      sharing-same =
          first_cong σ.opened (may_share s (barred s) σ t) (may_share_flat s (barred_flat s) σ t) (λ k l. rw (dense k l, barred-same σ t k, start-same σ t k))

      -- processors that are not open are alike
      end-above : (i : ℕ) → σ.opened ≤ i → i < nowhere → end_of s σ i ≡ 0
      unfolding end_of end_by
      end-above i h l = omega (arith, greatest-le (task_count s) (end_by s σ i) 0 (λ u m. rw (above i u h l) (omega arith)))

      start-above : (i j : ℕ) → σ.opened ≤ i → i < nowhere → σ.opened ≤ j → j < nowhere → start_on_flat s σ t i ≡ start_on_flat s σ t j
      unfolding start_on_flat elsewhere near_by
      start-above i j h l g m =
          ap₂ max
          (ap (λ (e : ℕ). unpacked s (elsewhere s σ t i) (reach_by s σ) e (link_count s)) (end-above i h l ∙ sym (end-above j g m)) ∙
          unpacked-cong s (elsewhere s σ t i) (elsewhere s σ t j) (reach_by s σ) (reach_by s σ) (end_of s σ j) (link_count s) (λ x y. rw (above i (source_of s x) h l, above j (source_of s x) g m)) (λ x y e. refl))
          (greatest-cong (link_count s) (near_by s σ t i) (near_by s σ t j) (λ x y. rw (above i (source_of s x) h l, above j (source_of s x) g m)))

      put-above : (i j : ℕ) → σ.opened ≤ i → i < nowhere → σ.opened ≤ j → j < nowhere → (u : ℕ) → stands (put σ t i 0 0) u i ≡ stands (put σ t j 0 0) u j
      unfolding stands place_of
      put-above i j h l g m u = go (equal-or u t) (dec_lt t (length σ.on))
        where
          go : (u ≡ t) ⊎ (u ≢ t) → Dec (t < length σ.on) → eqb (get_or (set σ.on t i) u nowhere) i ≡ eqb (get_or (set σ.on t j) u nowhere) j
          go (inr d) x = rw (get_or-set_other σ.on t u i nowhere d, get_or-set_other σ.on t u j nowhere d) (above i u h l ∙ sym (above j u g m))
          go (inl d) (yes x) = rw (d, get_or-set_same σ.on t i nowhere x, get_or-set_same σ.on t j nowhere x, eq-eqb i i refl, eq-eqb j j refl)
          go (inl d) (no x) = rw (set_out σ.on t i (omega arith), set_out σ.on t j (omega arith)) (above i u h l ∙ sym (above j u g m))

      fits-above : (i j : ℕ) → σ.opened ≤ i → i < nowhere → σ.opened ≤ j → j < nowhere → fits s σ t i ≡ fits s σ t j
      unfolding fits store_on store_by bytes_by
      fits-above i j h l g m =
          let z = put-above i j h l g m in
          ap (λ (n : ℕ). leb n s.limit)
          (ap₂ ◌+◌ (sum-cong (task_count s) (store_by s (put σ t i 0 0) i) (store_by s (put σ t j 0 0) j) (λ u y. rw (z u)))
          (sum-cong (link_count s) (bytes_by s (put σ t i 0 0) i) (bytes_by s (put σ t j 0 0) j) (λ x y. rw (z (target_of s x), z (source_of s x)))))

      may-below : (k : ℕ) → k < σ.opened → may_open s (barred s) σ t k ≡ false
      unfolding may_open
      may-below k l = rw (dense k l)

      may-above : (k : ℕ) → σ.opened ≤ k → k < nowhere → may_open s (barred s) σ t k ≡ fits s σ t k
      unfolding may_open
      may-above k h l = rw (shut k h l)

      may-is : (k : ℕ) → may_open s (barred s) σ t k ≡ true → σ.opened ≤ k
      may-is k e = go (dec_lt k σ.opened)
        where
          go : Dec (k < σ.opened) → σ.opened ≤ k
          go (yes l) = absurd (false≢true (sym (may-below k l) ∙ e))
          go (no l) = omega arith

      another-same : another s (barred s) σ t ≡ another_flat s σ t
      unfolding another least another_flat opens_flat
      another-same =
          let few = proper.form.board_few in
          leading-first s.processors (may_open s (barred s) σ t) (λ a b. ltb (start_on s σ t a) (start_on s σ t b))
          (λ i j l m p q.
          let z : start_on s σ t i ≡ start_on s σ t j = start-same σ t i ∙ start-above i j (may-is i p) (omega arith) (may-is j q) (omega arith) ∙ sym (start-same σ t j) in
          le-ltb (start_on s σ t i) (start_on s σ t j) (omega (arith, z))) ∙
          go (dec_lt σ.opened s.processors) (fits s σ t σ.opened) refl
        where
          go : Dec (σ.opened < s.processors) → (u : Bool) → fits s σ t σ.opened ≡ u
              → first s.processors (may_open s (barred s) σ t) ≡ pick (both (ltb σ.opened s.processors) (fits s σ t σ.opened)) (some σ.opened) none
          go (no l) u e =
              rw (le-ltb σ.opened s.processors (omega arith))
              (none_first s.processors (may_open s (barred s) σ t) (λ k m. may-below k (omega arith)))
          go (yes l) true e =
              let few = proper.form.board_few in
              rw (lt-ltb σ.opened s.processors l, e)
              (first_found s.processors (may_open s (barred s) σ t) σ.opened (λ j m. may-below j m) (may-above σ.opened (omega arith) (omega arith) ∙ e) l)
          go (yes l) false e =
              rw (lt-ltb σ.opened s.processors l, e) (none_first s.processors (may_open s (barred s) σ t) (λ k m. none_of k m (dec_lt k σ.opened)))
            where
              none_of : (k : ℕ) → k < s.processors → Dec (k < σ.opened) → may_open s (barred s) σ t k ≡ false
              none_of k m (yes x) = may-below k x
              none_of k m (no x) =
                  let few = proper.form.board_few in
                  may-above k (omega arith) (omega arith) ∙ fits-above k σ.opened (omega arith) (omega arith) (omega arith) (omega arith) ∙ e

      some_next : is_some (another_flat s σ t) ≡ opens_flat s σ t
      unfolding another_flat
      some_next = by (opens_flat s σ t)
        where
          by : (u : Bool) → is_some (pick {X = Option ℕ} u (some σ.opened) none) ≡ u
          by true = refl
          by false = refl

      share-same : share s (barred s) σ t ≡ share_flat s (barred_flat s) σ t
      unfolding share share_flat
      share-same = rw (another-same, some_next, sharing-same)

      module _ (amended : Bool) where
        choice-same : choice s (barred s) amended σ t ≡ choice_flat s (barred_flat s) amended σ t
        unfolding choice choice_flat
        choice-same = rw (join-same, idle-same, share-same, another-same, last-same)

        -- the next processor at most
        choice-next : (k : ℕ) → choice_flat s (barred_flat s) amended σ t ≡ some k → k ≤ σ.opened
        unfolding choice_flat join_flat idle_flat another_flat share_flat last_resort_flat least
        choice-next k e =
            ⊎_elim (λ q. let m = leading-some σ.opened _ _ k q in omega (arith, m.0))
            (λ q. ⊎_elim (λ q. let m = leading-some σ.opened _ _ k q in omega (arith, m.0))
            (λ q. ⊎_elim (next-shared amended)
            (λ q. ⊎_elim (is-next (opens_flat s σ t)) (λ q. let m = leading-some σ.opened _ _ k q in omega (arith, m.0))
            (or_else-some (another_flat s σ t) _ k q))
            (or_else-some (pick amended (share_flat s (barred_flat s) σ t) none) _ k q))
            (or_else-some (idle_flat s (barred_flat s) σ t) _ k q))
            (or_else-some (join_flat s (barred_flat s) σ t) _ k e)
          where
            is-next : (u : Bool) → pick u (some σ.opened) none ≡ some k → k ≤ σ.opened
            is-next true q = let z : σ.opened ≡ k = cc in omega arith
            is-next false q = not_some q

            among : (u : Bool) → pick u (first σ.opened (may_share_flat s (barred_flat s) σ t)) none ≡ some k → k ≤ σ.opened
            among true q = let m = first_some σ.opened _ k q in omega (arith, m.0)
            among false q = not_some q

            next-shared : (u : Bool) → pick u (share_flat s (barred_flat s) σ t) none ≡ some k → k ≤ σ.opened
            next-shared true q = among (opens_flat s σ t) q
            next-shared false q = not_some q

  -- turn by turn
  module _ (proper : Proper s) where
    dense-place : (σ : Schedule) (fair : Fair s σ) → ((k : ℕ) → k < σ.opened → is_open s σ k ≡ true) → (t k : ℕ) (p : Placing s σ t k) → k ≤ σ.opened
        → (j : ℕ) → j < (place s σ t k).opened → is_open s (place s σ t k) j ≡ true
    unfolding is_open stands
    dense-place σ fair dense t k p n j l =
        ⊎_elim (λ (q : j ≡ k). any_found (task_count s) (λ u. stands (place s σ t k) u j) t p.below (rw (on_same s proper fair p) (eq-eqb k j (sym q))))
        (λ d.
        let m = any_some (task_count s) (λ u. stands σ u j) (dense j (omega arith)) in
        any_found (task_count s) (λ u. stands (place s σ t k) u j) m.0 m.1 (stands-other s proper fair p j (omega (arith, fair.opened, proper.form.board_few)) d m.0 ∙ m.2))
        (equal-or j k)

    -- all turns are the same, with C-17 and without
    module _ (amended : Bool) where
      same-turns : (n : ℕ) (σ : Schedule) → Fair s σ → ((k : ℕ) → k < σ.opened → is_open s σ k ≡ true) → turns s (barred s) amended n σ ≡ turns_flat s (barred_flat s) amended n σ
      unfolding turns turns_flat turn first_ready
      same-turns zero σ fair dense = refl
      same-turns (suc n) σ fair dense = go (first_ready s σ) refl (same-turns n)
        where
          go : (o : Option ℕ) → first_ready s σ ≡ o
              → ((τ : Schedule) → Fair s τ → ((k : ℕ) → k < τ.opened → is_open s τ k ≡ true) → turns s (barred s) amended n τ ≡ turns_flat s (barred_flat s) amended n τ)
              → and_then (place_task s (barred s) amended σ o) (turns s (barred s) amended n) ≡ and_then (place_task_flat s (barred_flat s) amended σ o) (turns_flat s (barred_flat s) amended n)
          go none q ih = ih σ fair dense
          go (some t) q ih = rw (choice-same proper σ fair dense t amended) (on (choice_flat s (barred_flat s) amended σ t) refl)
            where
              on : (c : Option ℕ) → choice_flat s (barred_flat s) amended σ t ≡ c
                  → and_then (place_on s (barred s) σ t c) (turns s (barred s) amended n) ≡ and_then (place_on_flat s (barred_flat s) σ t c) (turns_flat s (barred_flat s) amended n)
              on none e = refl
              on (some k) e =
                  let m = leading-some (task_count s) (ready s σ) (ahead_by s (ready_priority s σ)) t q in
                  let p : Placing s σ t k = record { below = m.0; is_ready = m.1; room = chosen s (barred s) σ t k amended fair.opened (choice-same proper σ fair dense t amended ∙ e) } in
                  rw (← start-same σ t k) (ih (place s σ t k) (fair-place s proper fair p) (dense-place σ fair dense t k p (choice-next proper σ fair dense t amended k e)))

      dense-turns : (n : ℕ) (σ τ : Schedule) → Fair s σ → ((k : ℕ) → k < σ.opened → is_open s σ k ≡ true) → turns s (barred s) amended n σ ≡ value τ
          → Fair s τ × ((k : ℕ) → k < τ.opened → is_open s τ k ≡ true)
      unfolding turns turn first_ready
      dense-turns zero σ τ fair dense e = let z : σ ≡ τ = cc in subst (λ ρ. Fair s ρ × ((k : ℕ) → k < ρ.opened → is_open s ρ k ≡ true)) z (fair, dense)
      dense-turns (suc n) σ τ fair dense e = go (first_ready s σ) refl e (dense-turns n)
        where
          go : (o : Option ℕ) → first_ready s σ ≡ o → and_then (place_task s (barred s) amended σ o) (turns s (barred s) amended n) ≡ value τ
              → ((ρ τ : Schedule) → Fair s ρ → ((k : ℕ) → k < ρ.opened → is_open s ρ k ≡ true) → turns s (barred s) amended n ρ ≡ value τ → Fair s τ × ((k : ℕ) → k < τ.opened → is_open s τ k ≡ true))
              → Fair s τ × ((k : ℕ) → k < τ.opened → is_open s τ k ≡ true)
          go none q e ih = ih σ τ fair dense e
          go (some t) q e ih = on (choice s (barred s) amended σ t) refl e
            where
              on : (c : Option ℕ) → choice s (barred s) amended σ t ≡ c → and_then (place_on s (barred s) σ t c) (turns s (barred s) amended n) ≡ value τ → Fair s τ × ((k : ℕ) → k < τ.opened → is_open s τ k ≡ true)
              on none x e = not-value e
              on (some k) x e =
                  let m = leading-some (task_count s) (ready s σ) (ahead_by s (ready_priority s σ)) t q in
                  let p : Placing s σ t k = record { below = m.0; is_ready = m.1; room = chosen s (barred s) σ t k amended fair.opened x } in
                  ih (place s σ t k) τ (fair-place s proper fair p) (dense-place σ fair dense t k p (choice-next proper σ fair dense t amended k (sym (choice-same proper σ fair dense t amended) ∙ x))) e

    -- a schedule that opened its processors in turn runs tasks on all of them
    count-dense : (σ : Schedule) → Fair s σ → ((k : ℕ) → k < σ.opened → is_open s σ k ≡ true) → (n : ℕ) → n ≤ s.processors → sum n (λ k. bit (is_open s σ k)) ≡ min n σ.opened
    unfolding sum
    count-dense σ fair dense zero l = omega arith
    count-dense σ fair dense (suc n) l = go (dec_lt n σ.opened) (count-dense σ fair dense n (omega arith))
      where
        go : Dec (n < σ.opened) → sum n (λ k. bit (is_open s σ k)) ≡ min n σ.opened → sum n (λ k. bit (is_open s σ k)) + bit (is_open s σ n) ≡ min (suc n) σ.opened
        go (yes h) ih = omega (arith, ih, ap bit (dense n h))
        go (no h) ih = omega (arith, ih, ap bit (shut proper σ fair dense n (omega arith) (omega (arith, proper.form.board_few))))

module _ (s : Sheet) (proper : Proper s) (flat : s.cube ≡ false) where
  pub flat-steps : (amended : Bool) → planned_by s (barred s) amended ≡ planned_by_flat s (barred_flat s) amended
  unfolding planned_by planned_by_flat
  flat-steps amended = same-turns s flat proper amended (task_count s) (empty s) (empty-fair s proper) (λ k l. absurd (omega arith))

  pub flat-plans : planned s ≡ planned_flat s
  unfolding planned planned_flat
  flat-plans = flat-steps true

  -- every processor up to the highest one used runs a task
  pub flat-running : (σ : Schedule) → planned s ≡ value σ → running s σ ≡ σ.opened
  unfolding planned planned_by running
  flat-running σ e =
      let d = dense-turns s flat proper true (task_count s) (empty s) σ (empty-fair s proper) (λ k l. absurd (omega arith)) e in
      omega (arith, count-dense s flat proper σ d.0 d.1 s.processors (omega arith), d.0.opened)
