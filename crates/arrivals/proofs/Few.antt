-- The counts stay small: the known links into a task that is not placed come from other tasks, each from one of its own.
use Prim.Native.Nat.{ℕ, ◌+◌, ◌≤◌, ◌<◌}
use mathlib.Core.Bool.{Bool, true, false, true≢false}
use mathlib.Core.Path.{◌≡◌, refl, ap, sym, ◌∙◌}
use native.Mathlib.Omega.{arith}
use native.Mathlib.Decide.{ℕ_discrete}
use borrow.Author.Tests.{eq-eqb, ne_eqb, eqb-true}
use lib.Dec.{eqb}
use Rattle.folds.specs.Folds.{pick, both, any, sum}
use Rattle.folds.proofs.Tests.{pick-le, both-parts}
use Rattle.folds.proofs.Laws.{sum_zeros, sum-cong, sum-le, sum_mono, sum-only, sum-point, sum-swap}
use Rattle.sheet.specs.Sheet.{Sheet, task_count, link_count, source_of, target_of}
use Rattle.sheet.specs.Tables.{Ranged}
use Rattle.planner.specs.Schedule.{Schedule, placed, stands}
use Rattle.arrivals.specs.Kept.{counted_by, into, into_from, one_by, Single}
use Rattle.arrivals.proofs.Counts.{sum-single, counts-from-le}

pub counts-few : (s : Sheet) (q c : ℕ → Bool) → sum (link_count s) (counted_by q one_by c) ≤ link_count s
unfolding counted_by
counts-few s q c = omega (arith, sum-le (link_count s) 1 (counted_by q one_by c) (λ l h. pick-le (both (q l) (c l)) 1 0 1 (omega arith) (omega arith)))

module _ (s : Sheet) (σ : Schedule) (ranged : Ranged s) (single : Single s) (v : ℕ) (v-in : v < task_count s) (free : placed σ v ≡ false)
    (c : ℕ → Bool) (on : (l : ℕ) → c l ≡ true → placed σ (source_of s l) ≡ true) where
  abbrev asked : ℕ → Bool
  asked l = both (eqb (target_of s l) v) (c l)

  -- link l is counted, and leads from u
  abbrev of : ℕ → ℕ → Bool
  of u l = both (asked l) (eqb (source_of s l) u)

  by-source : (l : ℕ) → l < link_count s → sum (task_count s) (λ u. pick (of u l) 1 0) ≡ pick (asked l) 1 0
  by-source l h = sum-only (task_count s) (λ u. pick (of u l) 1 0) (source_of s l) (ranged.source l h) (λ u d. rw (ne_eqb (source_of s l) u (λ e. d (sym e))) (none (asked l))) ∙ rw (eq-eqb (source_of s l) (source_of s l) refl) (one (asked l))
    where
      none : (b : Bool) → ◌≡◌ {A = ℕ} (pick (both b false) 1 0) 0
      none true = refl
      none false = refl

      one : (b : Bool) → ◌≡◌ {A = ℕ} (pick (both b true) 1 0) (pick b 1 0)
      one true = refl
      one false = refl

  one_of : (u i j : ℕ) → i < link_count s → j < link_count s → of u i ≡ true → of u j ≡ true → i ≡ j
  one_of u i j h g p q =
      let a = both-parts (asked i) (eqb (source_of s i) u) p in
      let b = both-parts (asked j) (eqb (source_of s j) u) q in
      let x = both-parts (eqb (target_of s i) v) (c i) a.0 in
      let y = both-parts (eqb (target_of s j) v) (c j) b.0 in
      single.once i j h g (eqb-true (source_of s i) u a.1 ∙ sym (eqb-true (source_of s j) u b.1)) (eqb-true (target_of s i) v x.0 ∙ sym (eqb-true (target_of s j) v y.0))

  -- v is not placed, and so counts for nothing itself
  not_own : (l : ℕ) (b : Bool) → of v l ≡ b → ◌≡◌ {A = ℕ} (pick (of v l) 1 0) 0
  not_own l true e =
      let a = both-parts (asked l) (eqb (source_of s l) v) e in
      let x = both-parts (eqb (target_of s l) v) (c l) a.0 in
      absurd (true≢false (sym (on l x.1) ∙ ap (placed σ) (eqb-true (source_of s l) v a.1) ∙ free))
  not_own l false e = rw e

  each-source : (u : ℕ) → Dec (u ≡ v) → sum (link_count s) (λ l. pick (of u l) 1 0) ≤ pick (eqb u v) 0 1
  each-source u (yes e) = rw (e, eq-eqb v v refl) (omega (arith, sum_zeros (link_count s) (λ l. pick (of v l) 1 0) (λ l h. not_own l (of v l) refl)))
  each-source u (no e) = rw (ne_eqb u v e) (omega (arith, sum-single (link_count s) (of u) (one_of u), pick-le (any (link_count s) (of u)) 1 0 1 (omega arith) (omega arith)))

  others : sum (task_count s) (λ u. pick (eqb u v) 0 1) + 1 ≤ task_count s
  others =
      omega (
        arith,
        sum-point (task_count s) (λ u. pick (eqb u v) 0 1) (λ u. 1) v 1 v-in (rw (eq-eqb v v refl)) (λ u h d. rw (ne_eqb u v d)),
        sum-le (task_count s) 1 (λ u. 1) (λ u h. omega arith),
      )

  pub few-into : sum (link_count s) (counted_by (into s v) one_by c) < 256
  unfolding counted_by
  few-into =
      omega (
        arith,
        ranged.few_tasks,
        others,
        sum-cong (link_count s) (λ l. sum (task_count s) (λ u. pick (of u l) 1 0)) (counted_by (into s v) one_by c) by-source,
        sum-swap (link_count s) (task_count s) (λ l u. pick (of u l) 1 0),
        sum_mono (task_count s) (λ u. sum (link_count s) (λ l. pick (of u l) 1 0)) (λ u. pick (eqb u v) 0 1) (λ u h. each-source u (ℕ_discrete u v)),
      )

  pub few-from : (k : ℕ) → sum (link_count s) (counted_by (into_from s σ v k) one_by c) < 256
  few-from k = omega (arith, few-into, counts-from-le (link_count s) (into s v) (λ l. stands σ (source_of s l) k) c one_by)
