-- What the guard bars: before its arrival the first partly ready task u can start only where its latest message comes from, so that only
-- there its best start can rise.
use Prim.Native.Nat.{ℕ, zero, suc, ◌+◌, ◌*◌, ◌≤◌, ◌<◌, max, min}
use native.Mathlib.Nat.{mul-le-mul}
use mathlib.Core.Path.{◌≡◌, refl, ap, ap₂, sym, ◌∙◌}
use mathlib.Core.Logic.{◌≢◌, ⊎_elim}
use mathlib.Core.Bool.{Bool, true, false, true≢false}
use mathlib.Core.Option.{Option, none, some}
use mathlib.Core.List.{List}
use native.Mathlib.Omega.{arith}
use native.Mathlib.Decide.{dec_lt, ℕ_discrete}
use borrow.Author.Tests.{lt-ltb, le-ltb, ltb-true, ltb-false, eq-eqb, ne_eqb, eqb-true}
use lib.ListN.{get_or}
use lib.Dec.{eqb, ltb}
use Rattle.folds.specs.Folds.{pick, both, greatest, prefer, leading, least}
use Rattle.folds.proofs.Tests.{below_suc, both-parts}
use Rattle.folds.proofs.Laws.{any_found, greatest-some, term-le-greatest}
use Rattle.sheet.specs.Sheet.{Sheet, task_count, link_count, work_of, source_of, target_of, cost_of}
use Rattle.sheet.specs.Hops.{hops, link_time}
use Rattle.sheet.proofs.Hopping.{some-hop}
use Rattle.sheet.specs.Tables.{sheet_in}
use Rattle.graph.specs.Graph.{level}
use Rattle.planner.specs.Schedule.{Schedule, placed, stands, place_of}
use Rattle.planner.specs.Placing.{comes, reach_by, arrival, priority, ready_arrival, ready_priority, first_partly_ready, end_of, start_by, start_from, start_on, start_with, start_at, holds_by, holds_predecessor, best_start, ends_with, delays, barred_for, barred}
use Rattle.schedule.specs.Layout.{schedule_in}
use Rattle.arrivals.specs.Layout.{arrivals_from, senders_from}
use Rattle.arrivals.specs.Kept.{counted_by, into_from, known, Kept}
use Rattle.arrivals.proofs.Walks.{kept-arrived}
use Rattle.workspace.specs.Found.{found_of}
use Rattle.workspace.specs.Found.{Found}
use Rattle.std.specs.Prelude.{Some, None}
use Rattle.readiness.proofs.Counts.{arrival-kept}
use Rattle.placing.specs.Guards.{delays_for, Rival, BarsFor, Bars, JoinBarsFor, JoinBars}

-- a message between two processors takes its cost at least
time-least : (s : Sheet) (l j k : ℕ) → j < 16 → k < 16 → (j ≡ k → ⊥) → cost_of s l ≤ link_time s l j k
unfolding link_time
time-least s l j k h g d = by s.cube
  where
    times : (c n : ℕ) → 1 ≤ n → c ≤ c * n
    times c n m = omega (arith, mul-le-mul {n₁ = c} {m₁ = 1} {n₂ = c} {m₂ = n} (omega arith) m)

    by : (t : Bool) → cost_of s l ≤ pick t (cost_of s l * hops j k) (cost_of s l)
    by true = times (cost_of s l) (hops j k) (some-hop j k h g d)
    by false = omega arith

-- what `least` finds
module _ (p : ℕ → Bool) (f : ℕ → ℕ) where
  abbrev LeastIs : ℕ → Option ℕ → Type 0
  LeastIs n none = (j : ℕ) → j < n → p j ≡ false
  LeastIs n (some k) = (k < n) × (p k ≡ true) × ((j : ℕ) → j < n → p j ≡ true → f k ≤ f j)

  abbrev lower : ℕ → ℕ → Bool
  lower a b = ltb (f a) (f b)

  least_step : (n : ℕ) (o : Option ℕ) → LeastIs n o → (b : Bool) → p n ≡ b → LeastIs (suc n) (pick (p n) (prefer lower n o) o)
  least_step n none h false e = rw e (λ j l. ⊎_elim (h j) (λ q. ap p q ∙ e) (below_suc l))
  least_step n (some k) h false e = rw e (omega (arith, h.0), h.1, λ j l q. ⊎_elim (λ m. h.2 j m q) (λ x. absurd (true≢false (sym q ∙ ap p x ∙ e))) (below_suc l))
  least_step n none h true e = rw e (omega arith, e, λ j l q. ⊎_elim (λ m. absurd (true≢false (sym q ∙ h j m))) (λ x. rw x (omega arith)) (below_suc l))
  least_step n (some k) h true e = rw e (go (dec_lt (f n) (f k)))
    where
      go : Dec (f n < f k) → LeastIs (suc n) (pick (lower n k) (some n) (some k))
      go (yes d) = rw (lt-ltb (f n) (f k) d) (omega arith, e, λ j l q. ⊎_elim (λ m. omega (arith, h.2 j m q)) (λ x. rw x (omega arith)) (below_suc l))
      go (no d) = rw (le-ltb (f n) (f k) (omega arith)) (omega (arith, h.0), h.1, λ j l q. ⊎_elim (λ m. h.2 j m q) (λ x. rw x (omega arith)) (below_suc l))

  least-is : (n : ℕ) → LeastIs n (least n p f)
  unfolding least leading
  least-is zero = λ j h. absurd (omega arith)
  least-is (suc n) = least_step n (leading n p lower) (least-is n) (p n) refl

-- no processor is barred
bars-none : {s : Sheet} {σ : Schedule} {t u : ℕ} → ((k : ℕ) → delays s σ t u k ≡ false) → BarsFor s σ t u 16
bars-none f = record { is = λ k l. ne_eqb k 16 (omega arith) ∙ sym (f k) }

-- step 1 asks of some only
pub join-bars : {s : Sheet} {σ : Schedule} {t u bars : ℕ} → BarsFor s σ t u bars → JoinBarsFor s σ t u bars
join-bars b = record { is = λ k l m. b.is k l }

module _ (w own : List ℕ) (kept : Kept w own) (u : ℕ) (h : u < task_count (sheet_in w)) where
  abbrev s : Sheet
  s = sheet_in w

  abbrev σ : Schedule
  σ = schedule_in w

  -- where u's latest message comes from, when it is there, and what u waits for on that processor
  abbrev main : ℕ
  main = get_or own (senders_from + u) 0

  abbrev latest : ℕ
  latest = get_or own (arrivals_from + u) 0

  abbrev near : ℕ
  near = greatest (link_count s) (start_by s σ u main)

  -- the start of u on k, as things are
  abbrev start_now : ℕ → ℕ
  start_now k = start_from s σ u k (end_of s σ k)

  end-le-now : (k : ℕ) → end_of s σ k ≤ start_now k
  unfolding start_from
  end-le-now k = omega arith

  latest-is : latest ≡ arrival s σ u
  latest-is = arrival-kept (kept-arrived kept u h)

  -- the link of that message
  module _ (late : 0 < latest) where
    message : (l : ℕ) × (l < link_count s) × (counted_by (into_from s σ u main) (reach_by s σ) (known s σ) l ≡ greatest (link_count s) (counted_by (into_from s σ u main) (reach_by s σ) (known s σ)))
    message = greatest-some (link_count s) (counted_by (into_from s σ u main) (reach_by s σ) (known s σ)) (omega (arith, kept.caches.counted.main u h))

    abbrev link : ℕ
    link = message.0

    abbrev test : Bool
    test = both (both (eqb (target_of s link) u) (stands σ (source_of s link) main)) (placed σ (source_of s link))

    sent : test ≡ true
    unfolding counted_by
    sent = go test (reach_by s σ link) refl (omega (arith, kept.caches.counted.main u h, message.2))
      where
        go : (b : Bool) (x : ℕ) → test ≡ b → 0 < pick b x 0 → test ≡ true
        go true x e l = e
        go false x e l = absurd (omega arith)

    reach-is : reach_by s σ link ≡ latest
    unfolding counted_by
    reach-is = go test (reach_by s σ link) sent (message.2 ∙ sym (kept.caches.counted.main u h))
      where
        go : (b : Bool) (x : ℕ) → b ≡ true → pick b x 0 ≡ latest → x ≡ latest
        go true x e q = q
        go false x e q = absurd (true≢false (sym e))

    from-main : both (eqb (target_of s link) u) (stands σ (source_of s link) main) ≡ true
    from-main = (both-parts (both (eqb (target_of s link) u) (stands σ (source_of s link) main)) (placed σ (source_of s link)) sent).0

    source-placed : placed σ (source_of s link) ≡ true
    source-placed = (both-parts (both (eqb (target_of s link) u) (stands σ (source_of s link) main)) (placed σ (source_of s link)) sent).1

    source-main : place_of σ (source_of s link) ≡ main
    unfolding stands
    source-main = eqb-true (place_of σ (source_of s link)) main (both-parts (eqb (target_of s link) u) (stands σ (source_of s link) main) from-main).1

    -- its processor is open and holds a predecessor of u
    pub main_open : main < σ.opened
    main_open = omega (arith, kept.standing (source_of s link) source-placed, source-main)

    main-holds : holds_predecessor s σ u main ≡ true
    unfolding holds_predecessor holds_by
    main-holds = any_found (link_count s) (holds_by s σ u main) link message.1 from-main

    -- on every other one, which is a hop away at least, u waits for it
    elsewhere : (j : ℕ) → j < 16 → j ≢ main → latest ≤ start_by s σ u j link
    unfolding start_by comes stands
    elsewhere j l n =
        rw ((both-parts (eqb (target_of s link) u) (stands σ (source_of s link) main) from-main).0, source-placed, ne_eqb (place_of σ (source_of s link)) j (λ q. n (sym q ∙ source-main)))
        (omega (arith, reach-is, time-least s link (place_of σ (source_of s link)) j (omega (arith, source-main, main_open, kept.few_opened)) l (λ q. n (sym q ∙ source-main))))

    -- processors that end at `ends`
    module _ (ends : ℕ → ℕ) where
      start-main : start_with s σ ends u main ≡ max (ends main) near
      unfolding start_with start_from
      start-main = refl

      start-else : (j : ℕ) → j < 16 → j ≢ main → latest ≤ start_with s σ ends u j
      unfolding start_with start_from
      start-else j l n = omega (arith, elsewhere j l n, term-le-greatest (link_count s) (start_by s σ u j) link message.1)

      best-at : (o : Option ℕ) → LeastIs (holds_predecessor s σ u) (start_with s σ ends u) σ.opened o
          → (start_at s σ ends u o ≤ max (ends main) near) × ((x : ℕ) → x ≤ max (ends main) near → x ≤ latest → x ≤ start_at s σ ends u o)
      best-at none l = absurd (true≢false (sym main-holds ∙ l main main_open))
      best-at (some k) l = (omega (arith, l.2 main main_open main-holds, start-main), λ x a b. go x a b (ℕ_discrete k main))
        where
          go : (x : ℕ) → x ≤ max (ends main) near → x ≤ latest → Dec (k ≡ main) → x ≤ start_with s σ ends u k
          go x a b (yes e) = omega (arith, ap (start_with s σ ends u) e, start-main)
          go x a b (no e) = omega (arith, start-else k (omega (arith, l.0, kept.few_opened)) e)

      best : (best_start s σ ends u ≤ max (ends main) near) × ((x : ℕ) → x ≤ max (ends main) near → x ≤ latest → x ≤ best_start s σ ends u)
      unfolding best_start
      best = best-at (least σ.opened (holds_predecessor s σ u) (start_with s σ ends u)) (least-is (holds_predecessor s σ u) (start_with s σ ends u) σ.opened)

    best-start : start_now main ≡ max (end_of s σ main) near
    unfolding start_from
    best-start = refl

    module _ (t k : ℕ) where
      abbrev now : ℕ
      now = best_start s σ (end_of s σ) u

      abbrev then : ℕ
      then = best_start s σ (ends_with s σ t k) u

      now-best : (now ≤ max (end_of s σ main) near) × ((x : ℕ) → x ≤ max (end_of s σ main) near → x ≤ latest → x ≤ now)
      now-best = best (end_of s σ)

      then-best : (then ≤ max (ends_with s σ t k main) near) × ((x : ℕ) → x ≤ max (ends_with s σ t k main) near → x ≤ latest → x ≤ then)
      then-best = best (ends_with s σ t k)

      then-main : main ≡ k → ends_with s σ t k main ≡ start_on s σ t main + work_of s t
      unfolding ends_with
      then-main e = rw (eq-eqb main k e) (ap (λ (j : ℕ). start_on s σ t j + work_of s t) (sym e))

      then-else : main ≢ k → ends_with s σ t k main ≡ end_of s σ main
      unfolding ends_with
      then-else e = rw (ne_eqb main k e)

      pub delays-late : latest ≤ start_now main → delays s σ t u k ≡ false
      unfolding delays
      delays-late l = rw (le-ltb now (arrival s σ u) (omega (arith, latest-is, now-best.1 latest (omega (arith, best-start)) (omega arith))))

      module _ (soon : start_now main < latest) where
        now-is : now ≡ start_now main
        now-is = omega (arith, best-start, now-best.0, now-best.1 (start_now main) (omega (arith, best-start)) (omega arith))

        delays-by : delays s σ t u k ≡ ltb now then
        unfolding delays
        delays-by = rw (lt-ltb now (arrival s σ u) (omega (arith, latest-is, now-is)))

        soon-else : main ≢ k → delays s σ t u k ≡ false
        soon-else e = delays-by ∙ le-ltb now then (omega (arith, now-is, best-start, then-best.0, then-else e))

        pub delays-done : start_on s σ t main + work_of s t ≤ start_now main → main ≡ k → delays s σ t u k ≡ false
        delays-done l e = delays-by ∙ le-ltb now then (omega (arith, now-is, best-start, then-best.0, then-main e))

        pub delays-here : start_now main < start_on s σ t main + work_of s t → main ≡ k → delays s σ t u k ≡ true
        delays-here l e = delays-by ∙ lt-ltb now then (omega (arith, now-is, then-best.1 (start_now main + 1) (omega (arith, then-main e)) (omega arith)))

      pub delays-else : main ≢ k → delays s σ t u k ≡ false
      delays-else e = go (dec_lt (start_now main) latest)
        where
          go : Dec (start_now main < latest) → delays s σ t u k ≡ false
          go (yes l) = soon-else l e
          go (no l) = delays-late (omega arith)

  -- as the code finds it
  pub main-of : {a k : ℕ} → a ≡ arrival s σ u → a ≢ 0 → k ≡ main → k < 16
  main-of ea n ek = omega (arith, ek, main_open (omega (arith, latest-is)), kept.few_opened)

  module _ (t : ℕ) where
    pub bars-never : {a : ℕ} → a ≡ arrival s σ u → a ≡ 0 → BarsFor s σ t u 16
    unfolding delays
    bars-never {a} ea e = bars-none (λ k. rw (le-ltb (best_start s σ (end_of s σ) u) (arrival s σ u) (omega arith)))

    module _ {a k : ℕ} (ea : a ≡ arrival s σ u) (some-late : a ≢ 0) (ek : k ≡ main) where
      late : 0 < latest
      late = omega (arith, latest-is)

      -- where u is not delayed on the processor that its latest message comes from
      not-here : ((j : ℕ) → main ≡ j → delays s σ t u j ≡ false) → BarsFor s σ t u 16
      not-here f = bars-none (λ j. go j (ℕ_discrete main j))
        where
          go : (j : ℕ) → Dec (main ≡ j) → delays s σ t u j ≡ false
          go j (yes e) = f j e
          go j (no e) = delays-else late t j e

      -- .. or where that processor holds no predecessor of t
      pub bars-apart : holds_predecessor s σ t k ≡ false → JoinBarsFor s σ t u 16
      bars-apart e =
          record { is = λ j l m. ne_eqb j 16 (omega arith) ∙ sym (delays-else late t j (λ q. true≢false (sym m ∙ ap (holds_predecessor s σ t) (sym q ∙ sym ek) ∙ e))) }

      pub bars-busy : {x : ℕ} → x ≡ end_of s σ k → a ≤ x → BarsFor s σ t u 16
      bars-busy ex l = not-here (λ j q. delays-late late t j (omega (arith, latest-is, end-le-now main, ap (end_of s σ) ek)))

      module _ {finish limit : ℕ} {test : Bool} (ef : finish ≡ start_on s σ t k + work_of s t) (el : limit ≡ min a finish) (et : test ≡ ltb (start_now k) limit) where
        best-main : start_now k ≡ start_now main
        best-main = ap start_now ek

        finish-main : finish ≡ start_on s σ t main + work_of s t
        finish-main = ef ∙ ap (λ (j : ℕ). start_on s σ t j + work_of s t) ek

        -- u starts there by its arrival, or by t's finish
        pub bars-past : test ≡ false → BarsFor s σ t u 16
        bars-past e = not-here (λ j q. go j q (ltb-false (start_now k) limit (sym et ∙ e)) (dec_lt (start_now main) latest))
          where
            go : (j : ℕ) → main ≡ j → limit ≤ start_now k → Dec (start_now main < latest) → delays s σ t u j ≡ false
            go j q l (yes d) = delays-done late t j d (omega (arith, latest-is, best-main, finish-main)) q
            go j q l (no d) = delays-late late t j (omega arith)

        pub bars-here : test ≡ true → BarsFor s σ t u k
        bars-here e = record { is = λ j n. go j (ltb-true (start_now k) limit (sym et ∙ e)) (ℕ_discrete main j) }
          where
            go : (j : ℕ) → start_now k < limit → Dec (main ≡ j) → eqb j k ≡ delays s σ t u j
            go j l (yes q) =
                eq-eqb j k (sym q ∙ sym ek)
                ∙ sym (delays-here late t j (omega (arith, latest-is, best-main)) (omega (arith, best-main, finish-main)) q)
            go j l (no q) = ne_eqb j k (λ x. q (sym ek ∙ sym x)) ∙ sym (delays-else late t j q)

-- t's priority as the code finds it
pub priority-by : (s : Sheet) (σ : Schedule) (t : ℕ) {a v : ℕ} → a ≡ ready_arrival s σ t → v ≡ level s t → a + v ≡ ready_priority s σ t
unfolding ready_priority
priority-by s σ t ea ev = ap₂ ◌+◌ ea ev

-- for whose sake the guard applies, by the first partly ready task
module _ (s : Sheet) (σ : Schedule) (t : ℕ) {g : Found} (first : found_of g ≡ first_partly_ready s σ) where
  pub rival-none : g ≡ None → Rival s σ t none
  unfolding barred
  rival-none e = record { is = λ k. sym (ap (barred_for s σ t k) (sym first ∙ ap found_of e)) }

  module _ {u : ℕ} (e : g ≡ Some u) {p q : ℕ} (ep : p ≡ ready_priority s σ t) (eq : q ≡ priority s σ u) where
    barred-at : (k : ℕ) → barred s σ t k ≡ both (ltb p q) (delays s σ t u k)
    unfolding barred
    barred-at k = ap (barred_for s σ t k) (sym first ∙ ap found_of e) ∙ rw (← ep, ← eq)

    pub rival-behind : q ≤ p → Rival s σ t none
    rival-behind l = record { is = λ k. sym (barred-at k ∙ rw (le-ltb p q l)) }

    pub rival-ahead : p < q → Rival s σ t (some u)
    rival-ahead l = record { is = λ k. sym (barred-at k ∙ rw (lt-ltb p q l)) }

-- the guard of a turn, by the task for whose sake it applies
module _ (s : Sheet) (σ : Schedule) (t : ℕ) {g : Found} (rival : Rival s σ t (found_of g)) where
  nobody : g ≡ None → (k : ℕ) → barred s σ t k ≡ false
  nobody e k = sym (rival.is k) ∙ ap (λ (x : Found). delays_for s σ t k (found_of x)) e

  somebody : {u : ℕ} → g ≡ Some u → (k : ℕ) → delays s σ t u k ≡ barred s σ t k
  somebody e k = sym (ap (λ (x : Found). delays_for s σ t k (found_of x)) e) ∙ rival.is k

  pub guard_none : g ≡ None → Bars s σ t 16
  guard_none e = record { is = λ k l. ne_eqb k 16 (omega arith) ∙ sym (nobody e k) }

  pub guard-some : {u bars : ℕ} → g ≡ Some u → BarsFor s σ t u bars → Bars s σ t bars
  guard-some e b = record { is = λ k l. b.is k l ∙ somebody e k }

  pub join-guard-none : g ≡ None → JoinBars s σ t 16
  join-guard-none e = record { is = λ k l h. ne_eqb k 16 (omega arith) ∙ sym (nobody e k) }

  pub join-guard-some : {u bars : ℕ} → g ≡ Some u → JoinBarsFor s σ t u bars → JoinBars s σ t bars
  join-guard-some e b = record { is = λ k l h. b.is k l h ∙ somebody e k }
