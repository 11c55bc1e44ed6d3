-- What a schedule is: tasks placed one after the other, each ready and on a processor that it fits; the turns make one of all tasks.
use Prim.Native.Nat.{ℕ, zero, suc, ◌+◌, ◌≤◌, ◌<◌}
use native.Mathlib.Omega.{arith}
use mathlib.Core.Bool.{Bool, true, false, true≢false}
use mathlib.Core.Option.{Option, none, some}
use mathlib.Core.Path.{◌≡◌, refl, sym, ap, ◌∙◌, subst}
use mathlib.Core.Logic.{◌≢◌, ⊎_elim}
use mathlib.Core.List.{List, [], ◌∷◌, ◌++◌, append_assoc, append-nil}
use lib.ListN.{length, length-set, length-replicate}
use lib.Seq.{get_or-set_same, get_or-set_other}
use lib.Dec.{eqb, ltb}
use borrow.Author.Tests.{eq-eqb, ne_eqb, ltb-false, lt-ltb, leb-true}
use Rattle.folds.specs.Folds.{pick, bit, sum}
use Rattle.folds.specs.Answers.{value, and_then}
use Rattle.folds.proofs.Tests.{equal-or, not-value}
use Rattle.folds.proofs.Laws.{sum-cong, sum_zeros, sum-differ, sum-le, term-le-sum}
use Rattle.folds.proofs.Lists.{get_d_replicate}
use Rattle.sheet.specs.Sheet.{Sheet, task_count, link_count, source_of, target_of, work_of}
use Rattle.graph.proofs.Proper.{Proper}
use Rattle.planner.specs.Schedule.{Schedule, nowhere, empty, place_of, finish_of, placed, stands, put}
use Rattle.planner.specs.Placing.{ready, ready_priority, ahead_by, first_ready, start_on, store_by, bytes_by, store_on, fits}
use Rattle.planner.specs.Planner.{choice, place_on, place_task, turn, turns, planned_by}
use Rattle.planner.proofs.Ready.{ready-free, all_placed}
use Rattle.planner.proofs.Choosing.{leading-some, leading-none, Room, chosen}

-- what holds of a schedule at every turn
pub record Fair (s : Sheet) (σ : Schedule) : Type 0 where
  pub on : length σ.on ≡ task_count s
  pub finish : length σ.finish ≡ task_count s
  pub opened : σ.opened ≤ s.processors
  pub home : (u : ℕ) → placed σ u ≡ true → place_of σ u < σ.opened
  pub fit : (k : ℕ) → k < nowhere → store_on s σ k ≤ s.limit

abbrev pub place : Sheet → Schedule → ℕ → ℕ → Schedule
place s σ t k = put σ t k (start_on s σ t k) (start_on s σ t k + work_of s t)

-- one turn places t on k
pub record Placing (s : Sheet) (σ : Schedule) (t k : ℕ) : Type 0 where
  pub below : t < task_count s
  pub is_ready : ready s σ t ≡ true
  pub room : Room s σ t k

-- the tasks ts are placed on σ in this order, which gives φ
pub data Built (s : Sheet) : Schedule → Schedule → List ℕ → Type 0 where
  built : {φ : Schedule} → Built s φ φ []
  placing : {σ φ : Schedule} {ts : List ℕ} {t k : ℕ} → Placing s σ t k → Built s (place s σ t k) φ ts → Built s σ φ (t ∷ ts)

-- how often t stands in ts
abbrev pub tally : ℕ → List ℕ → ℕ
tally t [] = 0
tally t (u ∷ us) = bit (eqb t u) + tally t us

-- what putting t on k leaves as it was of another task
module _ (σ : Schedule) (t k a b u : ℕ) (d : u ≢ t) where
  pub on-other : place_of (put σ t k a b) u ≡ place_of σ u
  unfolding place_of
  on-other = get_or-set_other σ.on t u k nowhere d

  pub finish-other : finish_of (put σ t k a b) u ≡ finish_of σ u
  unfolding finish_of
  finish-other = get_or-set_other σ.finish t u b 0 d

  pub placed-other : placed (put σ t k a b) u ≡ placed σ u
  unfolding placed
  placed-other = ap (λ x. ltb x nowhere) on-other

-- x counted for the placed tasks is counted once more, for t
pub once-put : (σ : Schedule) (t k a b : ℕ) → placed σ t ≡ false → t < length σ.on → k < nowhere → (x u : ℕ) → pick (placed σ u) x 0 + pick (eqb u t) x 0 ≡ pick (placed (put σ t k a b) u) x 0
unfolding placed place_of
once-put σ t k a b free h board x u =
    ⊎_elim (λ q. rw q (rw (free, eq-eqb t t refl, get_or-set_same σ.on t k nowhere h, lt-ltb k nowhere board) (omega arith)))
    (λ d. rw (ne_eqb u t d, get_or-set_other σ.on t u k nowhere d) (omega arith)) (equal-or u t)

-- what placing t on k changes
module _ (s : Sheet) (proper : Proper s) {σ : Schedule} (fair : Fair s σ) {t k : ℕ} (p : Placing s σ t k) where
  free : placed σ t ≡ false
  free = ready-free s σ t p.is_ready

  pub on_same : place_of (place s σ t k) t ≡ k
  unfolding place_of
  on_same = get_or-set_same σ.on t k nowhere (omega (arith, fair.on, p.below))

  pub finish-same : finish_of (place s σ t k) t ≡ start_on s σ t k + work_of s t
  unfolding finish_of
  finish-same = get_or-set_same σ.finish t _ 0 (omega (arith, fair.finish, p.below))

  pub stands-not : (j : ℕ) → j < nowhere → stands σ t j ≡ false
  unfolding stands placed
  stands-not j h = ne_eqb (place_of σ t) j (omega (arith, ltb-false (place_of σ t) nowhere free))

  pub stands-other : (j : ℕ) → j < nowhere → j ≢ k → (u : ℕ) → stands (place s σ t k) u j ≡ stands σ u j
  unfolding stands
  stands-other j h d u =
      ⊎_elim (λ (e : u ≡ t). rw (e, on_same, ne_eqb k j (λ q. d (sym q)), stands-not j h)) (λ n. rw (on-other σ t k _ _ u n)) (equal-or u t)

  store_other : (j : ℕ) → j < nowhere → j ≢ k → store_on s (place s σ t k) j ≡ store_on s σ j
  unfolding store_on store_by bytes_by
  store_other j h d =
      omega (
        arith,
        sum-cong (task_count s) (store_by s (place s σ t k) j) (store_by s σ j) (λ u l. rw (stands-other j h d u)),
        sum-cong (link_count s) (bytes_by s (place s σ t k) j) (bytes_by s σ j) (λ l m. rw (stands-other j h d (target_of s l), stands-other j h d (source_of s l))),
      )

  pub placed_same : placed (place s σ t k) t ≡ true
  unfolding placed
  placed_same = rw on_same (lt-ltb k nowhere (omega (arith, p.room.board, proper.form.board_few)))

  placed-still : (u : ℕ) → placed σ u ≡ true → u ≢ t
  placed-still u e q = true≢false (sym e ∙ ap (placed σ) q ∙ free)

  -- x counted for the placed tasks is counted once more, for t
  pub once-place : (x u : ℕ) → pick (placed σ u) x 0 + pick (eqb u t) x 0 ≡ pick (placed (place s σ t k) u) x 0
  once-place x u = once-put σ t k _ _ free (omega (arith, fair.on, p.below)) (omega (arith, p.room.board, proper.form.board_few)) x u

  pub fair-place : Fair s (place s σ t k)
  unfolding fits store_on store_by bytes_by stands place_of
  fair-place =
      record {
        on = simp length-set fair.on;
        finish = simp length-set fair.finish;
        opened = omega (arith, fair.opened, p.room.board);
        home =
            λ u e. ⊎_elim (λ q. omega (arith, ap (place_of (place s σ t k)) q ∙ on_same))
            (λ d. rw (on-other σ t k _ _ u d) (omega (arith, fair.home u (sym (placed-other σ t k _ _ u d) ∙ e)))) (equal-or u t);
        fit =
            λ j h. ⊎_elim (λ q. rw q (leb-true (store_on s (place s σ t k) k) s.limit p.room.fit)) (λ d. rw (store_other j h d) (fair.fit j h)) (equal-or j k);
      }

-- what placing ts leaves as it was, and adds
pub record Plan (s : Sheet) (σ φ : Schedule) (ts : List ℕ) : Type 0 where
  pub fair : Fair s φ
  pub order : φ.order ≡ σ.order ++ ts
  pub on : (u : ℕ) → placed σ u ≡ true → place_of φ u ≡ place_of σ u
  pub finish : (u : ℕ) → placed σ u ≡ true → finish_of φ u ≡ finish_of σ u
  pub once : (u : ℕ) → bit (placed σ u) + tally u ts ≡ bit (placed φ u)

-- every task is placed
abbrev pub Whole : Sheet → Schedule → Type 0
Whole s φ = (u : ℕ) → u < task_count s → placed φ u ≡ true

abbrev pub Completed : Sheet → Schedule → Schedule → Type 0
Completed s σ φ = (ts : List ℕ) × Built s σ φ ts × Whole s φ

module _ (s : Sheet) (proper : Proper s) where
  pub plan-of : {σ φ : Schedule} {ts : List ℕ} → Fair s σ → Built s σ φ ts → Plan s σ φ ts
  plan-of {σ} f built = record { fair = f; order = sym (append-nil σ.order); on = λ u e. refl; finish = λ u e. refl; once = λ u. omega arith }
  plan-of {σ} f (placing {t = t} {k = k} p n) =
      let i = plan-of (fair-place s proper f p) n in
      record {
        fair = i.fair;
        order = i.order ∙ append_assoc σ.order (t ∷ []) _;
        on = λ u e. let d = placed-still s proper f p u e in i.on u (placed-other σ t k _ _ u d ∙ e) ∙ on-other σ t k _ _ u d;
        finish = λ u e. let d = placed-still s proper f p u e in i.finish u (placed-other σ t k _ _ u d ∙ e) ∙ finish-other σ t k _ _ u d;
        once = λ u. omega (arith, i.once u, once-place s proper f p 1 u);
      }

  -- the turns place every task
  abbrev pub missing : Schedule → ℕ → ℕ
  missing σ u = pick (placed σ u) 0 1

  abbrev pub unplaced : Schedule → ℕ
  unplaced σ = sum (task_count s) (missing σ)

  none-missing : (σ : Schedule) → unplaced σ ≡ 0 → Whole s σ
  none-missing σ h u l = go (placed σ u) refl
    where
      go : (b : Bool) → placed σ u ≡ b → placed σ u ≡ true
      go true q = q
      go false q = absurd (omega (arith, term-le-sum (task_count s) (missing σ) u l, ap (λ x. pick {X = ℕ} x 0 1) q))

  pub one_less : {σ : Schedule} {t k : ℕ} → Fair s σ → Placing s σ t k → unplaced (place s σ t k) + 1 ≡ unplaced σ
  one_less {σ} {t} {k} f p =
      omega (
        arith,
        sum-differ (task_count s) (missing (place s σ t k)) (missing σ) t p.below (λ u d. rw (placed-other σ t k _ _ u d)),
        ap (λ x. pick {X = ℕ} x 0 1) (free s proper f p),
        ap (λ x. pick {X = ℕ} x 0 1) (placed_same s proper f p),
      )

  module _ (guard : Schedule → ℕ → ℕ → Bool) (amended : Bool) where
    pub turns-build : (n : ℕ) (σ φ : Schedule) → Fair s σ → unplaced σ ≤ n → turns s guard amended n σ ≡ value φ → Completed s σ φ
    unfolding turns turn first_ready
    turns-build zero σ φ f h e = let z : σ ≡ φ = cc in subst (Completed s σ) z ([], built, none-missing σ (omega arith))
    turns-build (suc n) σ φ f h e = go (first_ready s σ) refl e (turns-build n)
      where
        go : (o : Option ℕ) → first_ready s σ ≡ o → and_then (place_task s guard amended σ o) (turns s guard amended n) ≡ value φ
            → ((τ ψ : Schedule) → Fair s τ → unplaced τ ≤ n → turns s guard amended n τ ≡ value ψ → Completed s τ ψ) → Completed s σ φ
        go none q g r =
            let all = all_placed s proper σ (leading-none (task_count s) (ready s σ) (ahead_by s (ready_priority s σ)) q) in
            r σ φ f (omega (arith, sum_zeros (task_count s) (missing σ) (λ u l. rw (all u l)))) g
        go (some t) q g r = on (choice s guard amended σ t) refl g
          where
            on : (o : Option ℕ) → choice s guard amended σ t ≡ o → and_then (place_on s guard σ t o) (turns s guard amended n) ≡ value φ → Completed s σ φ
            on none c g = not-value g
            on (some k) c g =
                let m = leading-some (task_count s) (ready s σ) (ahead_by s (ready_priority s σ)) t q in
                let p : Placing s σ t k = record { below = m.0; is_ready = m.1; room = chosen s guard σ t k amended f.opened c } in
                let i = r (place s σ t k) φ (fair-place s proper f p) (omega (arith, one_less f p)) g in
                (t ∷ i.0, placing p i.1, i.2)

  empty-on : (u : ℕ) → place_of (empty s) u ≡ nowhere
  unfolding place_of
  empty-on u = get_d_replicate (task_count s) u nowhere

  pub empty-free : (u : ℕ) → placed (empty s) u ≡ false
  unfolding placed
  empty-free u = rw (empty-on u)

  pub empty_stands : (k u : ℕ) → k < nowhere → stands (empty s) u k ≡ false
  unfolding stands
  empty_stands k u h = rw (empty-on u) (ne_eqb nowhere k (omega arith))

  pub empty-fair : Fair s (empty s)
  unfolding store_on store_by bytes_by
  empty-fair =
      record {
        on = length-replicate (task_count s) nowhere;
        finish = length-replicate (task_count s) 0;
        opened = omega arith;
        home = λ u e. absurd (true≢false (sym e ∙ empty-free u));
        fit =
            λ k h. omega (
              arith,
              sum_zeros (task_count s) (store_by s (empty s) k) (λ u l. rw (empty_stands k u h)),
              sum_zeros (link_count s) (bytes_by s (empty s) k) (λ l m. rw (empty_stands k (target_of s l) h)),
            );
      }

  -- what the planner gives, whatever the guard, with C-17 and without
  pub planned-build : (guard : Schedule → ℕ → ℕ → Bool) (amended : Bool) (φ : Schedule) → planned_by s guard amended ≡ value φ → Completed s (empty s) φ
  unfolding planned_by
  planned-build guard amended φ e =
      turns-build guard amended (task_count s) (empty s) φ empty-fair (omega (arith, sum-le (task_count s) 1 (missing (empty s)) (λ u l. rw (empty-free u) (omega arith)))) e
