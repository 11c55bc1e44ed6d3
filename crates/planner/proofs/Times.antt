-- When processors end and a task starts, as tasks are placed.
use Prim.Native.Nat.{ℕ, ◌+◌, ◌<◌}
use native.Mathlib.Omega.{arith}
use mathlib.Core.Bool.{true}
use mathlib.Core.Path.{◌≡◌, refl, ap, ◌∙◌}
use mathlib.Core.Logic.{◌≢◌, ⊎_elim}
use borrow.Author.Tests.{eq-eqb, ne_eqb}
use Rattle.folds.specs.Folds.{pick, greatest}
use Rattle.folds.proofs.Tests.{equal-or, pick-le}
use Rattle.folds.proofs.Laws.{term-le-greatest, greatest-le, greatest-cong, greatest-is}
use Rattle.sheet.specs.Sheet.{Sheet, task_count, link_count, source_of, target_of, work_of}
use Rattle.graph.proofs.Proper.{Proper}
use Rattle.planner.specs.Schedule.{Schedule, nowhere, empty, place_of, finish_of, placed, stands}
use Rattle.planner.specs.Placing.{comes, reach_on, unpacked, elsewhere, end_by, end_of, start_on}
use Rattle.planner.specs.Planner.{brings, claim_of}
use Rattle.planner.proofs.Ready.{ready-source}
use Rattle.planner.proofs.Unpacking.{unpacked-cong, end-le-start, start-unpacked}
use Rattle.planner.proofs.Schedules.{Fair, place, Placing, on_same, on-other, finish-same, finish-other, stands-not, stands-other, empty_stands, Whole}

module _ (s : Sheet) (proper : Proper s) {σ : Schedule} (fair : Fair s σ) {t k : ℕ} (p : Placing s σ t k) where
  by-same : end_by s (place s σ t k) k t ≡ start_on s σ t k + work_of s t
  unfolding end_by stands
  by-same = rw (on_same s proper fair p, eq-eqb k k refl) (finish-same s proper fair p)

  by-other : (j u : ℕ) → u ≢ t → end_by s (place s σ t k) j u ≡ end_by s σ j u
  unfolding end_by stands
  by-other j u d = rw (on-other σ t k _ _ u d, finish-other σ t k _ _ u d)

  -- k ends when t does, and every other processor as before
  pub end_same : end_of s (place s σ t k) k ≡ start_on s σ t k + work_of s t
  unfolding end_of
  end_same =
      greatest-is (task_count s) (end_by s (place s σ t k) k) t (start_on s σ t k + work_of s t) p.below by-same
      (λ u h. ⊎_elim (λ q. omega (arith, ap (end_by s (place s σ t k) k) q ∙ by-same))
      (λ d. omega (arith, by-other k u d, term-le-greatest (task_count s) (end_by s σ k) u h, end-le-start s σ t k)) (equal-or u t))

  pub end-other : (j : ℕ) → j < nowhere → j ≢ k → end_of s (place s σ t k) j ≡ end_of s σ j
  unfolding end_of end_by
  end-other j h d =
      greatest-cong (task_count s) (end_by s (place s σ t k) j) (end_by s σ j)
      (λ u l. ⊎_elim
      (λ (q : u ≡ t). rw (stands-other s proper fair p j h d u, ap (λ x. stands σ x j) q ∙ stands-not s proper fair p j h))
      (λ n. by-other j u n) (equal-or u t))

  -- the receives of t's block on k, where the tasks stand as on φ, end when t starts
  pub starts : (φ : Schedule) → ((u : ℕ) → placed σ u ≡ true → place_of φ u ≡ place_of σ u) → unpacked s (brings s φ k t) (reach_on s σ k) (end_of s σ k) (link_count s) ≡ start_on s σ t k
  unfolding elsewhere comes brings stands
  starts φ same =
      unpacked-cong s (brings s φ k t) (elsewhere s σ t k) (reach_on s σ k) (reach_on s σ k) (end_of s σ k) (link_count s)
      (λ l h. ⊎_elim
      (λ (q : target_of s l ≡ t). let r = ready-source s σ t l p.is_ready h q in rw (eq-eqb (target_of s l) t q, r, same (source_of s l) r))
      (λ d. rw (ne_eqb (target_of s l) t d)) (equal-or (target_of s l) t))
      (λ l h w. refl) ∙
      start-unpacked s σ t k proper.form.source

module _ (s : Sheet) (proper : Proper s) where
  pub empty-end : (k : ℕ) → k < nowhere → end_of s (empty s) k ≡ 0
  unfolding end_of end_by
  empty-end k h = omega (arith, greatest-le (task_count s) (end_by s (empty s) k) 0 (λ u l. rw (empty_stands s proper k u h) (omega arith)))

  -- the claim is when the last processor ends
  pub claim-end : {φ : Schedule} → Fair s φ → Whole s φ → greatest φ.opened (end_of s φ) ≡ claim_of s φ
  unfolding end_of end_by claim_of stands
  claim-end {φ} fair whole =
      omega (
        arith,
        greatest-le φ.opened (end_of s φ) (claim_of s φ)
            (λ k h. greatest-le (task_count s) (end_by s φ k) (claim_of s φ) (λ u l. pick-le (stands φ u k) (finish_of φ u) 0 (claim_of s φ) (term-le-greatest (task_count s) (finish_of φ) u l) (omega arith))),
        greatest-le (task_count s) (finish_of φ) (greatest φ.opened (end_of s φ))
            (λ u l. omega (
              arith,
              term-le-greatest (task_count s) (end_by s φ (place_of φ u)) u l,
              term-le-greatest φ.opened (end_of s φ) (place_of φ u) (fair.home u (whole u l)),
              ap (λ x. pick x (finish_of φ u) 0) (eq-eqb (place_of φ u) (place_of φ u) refl),
            )),
      )
