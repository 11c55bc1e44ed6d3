-- No finish is past all works, all costs and all unpacking together, so that times fit 32 bits.
use Prim.Native.Nat.{ℕ, ◌+◌, ◌*◌, ◌≤◌, ◌<◌}
use native.Mathlib.Omega.{arith}
use mathlib.Core.Bool.{Bool, true, false, not}
use mathlib.Core.Path.{◌≡◌, refl, sym, ap, ◌∙◌}
use mathlib.Core.Logic.{⊎_elim}
use mathlib.Core.List.{List}
use lib.ListN.{length}
use lib.Seq.{get_or-set_same}
use lib.Dec.{eqb}
use borrow.Author.Tests.{eq-eqb, ne_eqb, ltb-true}
use Rattle.folds.specs.Folds.{pick, both, sum}
use Rattle.folds.proofs.Tests.{equal-or, both-parts, pick-le}
use Rattle.folds.proofs.Laws.{sum-cong, sum-add, sum-le, sum-only, greatest-le}
use Rattle.folds.proofs.Lists.{get_d_replicate}
use Rattle.sheet.specs.Sheet.{Sheet, task_count, link_count, source_of, target_of, work_of, cost_of}
use Rattle.sheet.proofs.Hopping.{time-most}
use Rattle.graph.proofs.Forms.{Sized}
use Rattle.graph.proofs.Proper.{Proper}
use Rattle.planner.specs.Schedule.{Schedule, nowhere, latest_finish, latest_start, empty, place_of, finish_of, placed, stands, put}
use Rattle.planner.specs.Loads.{link_load, load_into, work_up_to, load_up_to, load_of}
use Rattle.planner.specs.Placing.{comes, reach_by, reach_on, unpacked, ready_arrival, elsewhere, near_by, end_by, end_of, start_on}
use Rattle.planner.proofs.Ready.{ready-free}
use Rattle.planner.proofs.Schedules.{Fair, place, Placing, Built, built, placing, finish-other, once-put, fair-place, empty-fair}
use Rattle.planner.proofs.Unpacking.{unpacked-le}

module _ (s : Sheet) where
  -- where no task finishes past b, none starts later than the links into it allow
  module _ (σ : Schedule) (t b : ℕ) (early : (u : ℕ) → finish_of σ u ≤ b) where
    reach-le : (l : ℕ) → comes s σ t l ≡ true → (reach_by s σ l + s.unpacking ≤ b + load_into s t l) × (s.unpacking ≤ load_into s t l)
    unfolding comes
    reach-le l e =
        let c = ap (λ u. pick u (link_load s l) 0) (both-parts (eqb (target_of s l) t) (placed σ (source_of s l)) e).0 in
        (omega (arith, early (source_of s l), c), omega (arith, c))

    -- the receives of the links below n, on a fresh processor and on k
    pub fresh-early : (n : ℕ) → unpacked s (comes s σ t) (reach_by s σ) 0 n ≤ b + sum n (load_into s t)
    fresh-early = unpacked-le s (comes s σ t) (reach_by s σ) 0 b (load_into s t) (omega arith) reach-le

    pub arrival-early : ready_arrival s σ t ≤ b + sum (link_count s) (load_into s t)
    unfolding ready_arrival
    arrival-early = fresh-early (link_count s)

    -- when the message of l is there on k, by the hops to k
    reach-on-le : (k l : ℕ) → k < nowhere → comes s σ t l ≡ true → (reach_on s σ k l + s.unpacking ≤ b + load_into s t l) × (s.unpacking ≤ load_into s t l)
    unfolding comes placed
    reach-on-le k l h e =
        let c = both-parts (eqb (target_of s l) t) (placed σ (source_of s l)) e in
        let g = ap (λ u. pick u (link_load s l) 0) c.0 in
        (omega (arith, early (source_of s l), g, time-most s l (place_of σ (source_of s l)) k (ltb-true (place_of σ (source_of s l)) nowhere c.1) h), omega (arith, g))

    module _ (k : ℕ) where
      pub end-early : end_of s σ k ≤ b
      unfolding end_of end_by
      end-early = greatest-le (task_count s) (end_by s σ k) b (λ u h. pick-le (stands σ u k) (finish_of σ u) 0 b (early u) (omega arith))

      near-early : (l : ℕ) → l < link_count s → near_by s σ t k l ≤ b
      unfolding near_by
      near-early l h = pick-le (both (comes s σ t l) (stands σ (source_of s l) k)) (finish_of σ (source_of s l)) 0 b (early (source_of s l)) (omega arith)

      pub receives-early : k < nowhere → (n : ℕ) → unpacked s (elsewhere s σ t k) (reach_on s σ k) (end_of s σ k) n ≤ b + sum n (load_into s t)
      unfolding elsewhere
      receives-early h =
          unpacked-le s (elsewhere s σ t k) (reach_on s σ k) (end_of s σ k) b (load_into s t) end-early (λ l e. reach-on-le k l h (both-parts (comes s σ t l) (not (stands σ (source_of s l) k)) e).0)

      pub start-early : k < nowhere → start_on s σ t k ≤ b + sum (link_count s) (load_into s t)
      unfolding start_on
      start-early h = omega (arith, receives-early h (link_count s), greatest-le (link_count s) (near_by s σ t k) b near-early)

  -- t, which was not placed, stands on k until f
  module _ (σ : Schedule) (t k a f : ℕ) (free : placed σ t ≡ false) (t-in : t < task_count s) (on_long : length σ.on ≡ task_count s) (board : k < nowhere) where
    once : (x u : ℕ) → pick (placed σ u) x 0 + pick (eqb u t) x 0 ≡ pick (placed (put σ t k a f) u) x 0
    once = once-put σ t k a f free (omega (arith, on_long)) board

    load-more : load_of s (put σ t k a f) ≡ load_of s σ + work_of s t + sum (link_count s) (load_into s t)
    unfolding load_of
    load-more =
        omega (
          arith,
          sum-cong (task_count s) (work_up_to s (put σ t k a f)) (λ u. work_up_to s σ u + pick (eqb u t) (work_of s u) 0) (λ u l. sym (once (work_of s u) u)),
          sum-add (task_count s) (work_up_to s σ) (λ u. pick (eqb u t) (work_of s u) 0),
          sum-only (task_count s) (λ u. pick (eqb u t) (work_of s u) 0) t t-in (λ u d. rw (ne_eqb u t d)),
          ap (λ b. pick b (work_of s t) 0) (eq-eqb t t refl),
          sum-cong (link_count s) (load_up_to s (put σ t k a f)) (λ l. load_up_to s σ l + load_into s t l) (λ l m. sym (once (link_load s l) (target_of s l))),
          sum-add (link_count s) (load_up_to s σ) (load_into s t),
        )

    -- t starts as soon as it can, and then no finish is past all loads
    pub finish-le : length σ.finish ≡ task_count s → f ≡ start_on s σ t k + work_of s t → ((u : ℕ) → finish_of σ u ≤ load_of s σ) → (u : ℕ) → finish_of (put σ t k a f) u ≤ load_of s (put σ t k a f)
    unfolding finish_of
    finish-le finish_long e h u =
        ⊎_elim (λ q. rw q (rw (get_or-set_same σ.finish t f 0 (omega (arith, finish_long))) (omega (arith, e, start-early σ t (load_of s σ) h k board, load-more))))
        (λ d. omega (arith, finish-other σ t k a f u d, h u, load-more)) (equal-or u t)

  pub empty-load : (u : ℕ) → finish_of (empty s) u ≤ load_of s (empty s)
  unfolding finish_of
  empty-load u = rw (get_d_replicate {A = ℕ} (task_count s) u 0) (omega arith)

  -- the numbers of a sheet have their widths
  module _ (few : link_count s ≤ 1024) (costs : (l : ℕ) → l < link_count s → cost_of s l ≤ 65535) (unpacks : s.unpacking ≤ 65535) where
    load-le : (l : ℕ) → l < link_count s → (b : Bool) → pick b (link_load s l) 0 ≤ 327675
    load-le l m b = pick-le b (link_load s l) 0 327675 (omega (arith, costs l m)) (omega arith)

    pub into-le : (t n : ℕ) → n ≤ link_count s → latest_finish + sum n (load_into s t) ≤ latest_start
    into-le t n h = omega (arith, sum-le n 327675 (load_into s t) (λ l m. load-le l (omega arith) (eqb (target_of s l) t)))

    pub load-small : task_count s ≤ 256 → ((t : ℕ) → t < task_count s → work_of s t ≤ 65535) → (φ : Schedule) → load_of s φ ≤ latest_finish
    unfolding load_of
    load-small tasks works φ =
        omega (
          arith,
          sum-le (task_count s) 65535 (work_up_to s φ) (λ u l. pick-le (placed φ u) (work_of s u) 0 65535 (works u l) (omega arith)),
          sum-le (link_count s) 327675 (load_up_to s φ) (λ l m. load-le l m (placed φ (target_of s l))),
        )

  module _ (proper : Proper s) where
    finishes-le : {σ φ : Schedule} {ts : List ℕ} → Fair s σ → Built s σ φ ts → ((u : ℕ) → finish_of σ u ≤ load_of s σ) → (u : ℕ) → finish_of φ u ≤ load_of s φ
    finishes-le f built h = h
    finishes-le {σ} f (placing {t = t} {k = k} p n) h =
        finishes-le (fair-place s proper f p) n
        (finish-le σ t k _ _ (ready-free s σ t p.is_ready) p.below f.on (omega (arith, p.room.board, proper.form.board_few)) f.finish refl h)

    pub finish-small : Sized s → {φ : Schedule} {ts : List ℕ} → Built s (empty s) φ ts → (u : ℕ) → finish_of φ u ≤ latest_finish
    finish-small sized {φ} n u =
        omega (
          arith,
          finishes-le (empty-fair s proper) n empty-load u,
          load-small proper.form.links (λ l m. omega (arith, sized.costs l m)) sized.unpacks proper.form.tasks sized.works φ,
        )
