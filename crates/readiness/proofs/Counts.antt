-- What is kept of a task's links says whether it is ready, or partly, and when its messages are there.
use Prim.Native.Nat.{ℕ, ◌+◌, ◌≤◌, ◌<◌}
use mathlib.Core.Bool.{Bool, true, false, not}
use mathlib.Core.Path.{◌≡◌, refl, ap, ap₂, sym, ◌∙◌}
use mathlib.Core.Logic.{◌≢◌}
use mathlib.Core.List.{List}
use native.Mathlib.Omega.{arith}
use borrow.Author.Tests.{eq-eqb, ne_eqb, lt-ltb, le-ltb}
use lib.ListN.{get_or}
use lib.Dec.{eqb, ltb}
use Rattle.folds.specs.Folds.{pick, both, either, all, any, sum}
use Rattle.folds.proofs.Tests.{both_false}
use Rattle.folds.proofs.Laws.{all-eqb, any-ltb, sum_mono, sum_zeros}
use Rattle.sheet.specs.Sheet.{Sheet, link_count, source_of, target_of}
use Rattle.sheet.specs.Tables.{sheet_in}
use Rattle.planner.specs.Schedule.{Schedule, placed}
use Rattle.planner.specs.Placing.{comes, lacks, satisfied, ready, partly_ready, arrival_by, arrival}
use Rattle.schedule.specs.Layout.{schedule_in}
use Rattle.arrivals.specs.Layout.{seen_from, arrivals_from}
use Rattle.arrivals.specs.Kept.{counted_by, into, one_by, known, Arrived}

module _ (s : Sheet) (σ : Schedule) (t : ℕ) where
  pub placed-ready : placed σ t ≡ true → false ≡ ready s σ t
  unfolding ready
  placed-ready e = rw e

  pub placed-partly : placed σ t ≡ true → false ≡ partly_ready s σ t
  unfolding partly_ready
  placed-partly e = rw e

module _ {w kept : List ℕ} {t : ℕ} (c : Arrived w kept t) where
  abbrev s : Sheet
  s = sheet_in w

  abbrev σ : Schedule
  σ = schedule_in w

  pub arrival-kept : get_or kept (arrivals_from + t) 0 ≡ arrival s σ t
  unfolding arrival arrival_by comes counted_by
  arrival-kept = c.arrived

  less : (a b : Bool) → pick (both a b) 1 0 ≤ pick (both a true) 1 0
  less true true = omega arith
  less true false = omega arith
  less false b = omega arith

  few : get_or kept (seen_from + t) 0 ≤ get_or kept t 0
  unfolding counted_by
  few =
      rw (c.seen, c.number)
      (sum_mono (link_count s) (counted_by (into s t) one_by (known s σ)) (counted_by (into s t) one_by (λ l. true)) (λ l k. less (eqb (target_of s l) t) (placed σ (source_of s l))))

  -- as many links are known as there are
  satisfied-kept : eqb (get_or kept (seen_from + t) 0) (get_or kept t 0) ≡ all (link_count s) (satisfied s σ t)
  unfolding counted_by satisfied
  satisfied-kept =
      rw (c.seen, c.number)
      (all-eqb (link_count s) (counted_by (into s t) one_by (known s σ)) (counted_by (into s t) one_by (λ l. true)) (satisfied s σ t)
      (λ l k. less (eqb (target_of s l) t) (placed σ (source_of s l))) (λ l k. is (eqb (target_of s l) t) (placed σ (source_of s l))))
    where
      is : (a b : Bool) → either (not a) b ≡ eqb (pick (both a b) 1 0) (pick (both a true) 1 0)
      is true true = refl
      is true false = refl
      is false b = refl

  lacks-kept : ltb (get_or kept (seen_from + t) 0) (get_or kept t 0) ≡ any (link_count s) (lacks s σ t)
  unfolding counted_by lacks
  lacks-kept =
      rw (c.seen, c.number)
      (any-ltb (link_count s) (counted_by (into s t) one_by (known s σ)) (counted_by (into s t) one_by (λ l. true)) (lacks s σ t)
      (λ l k. less (eqb (target_of s l) t) (placed σ (source_of s l))) (λ l k. is (eqb (target_of s l) t) (placed σ (source_of s l))))
    where
      is : (a b : Bool) → both a (not b) ≡ ltb (pick (both a b) 1 0) (pick (both a true) 1 0)
      is true true = refl
      is true false = refl
      is false b = refl

  comes-kept : ltb 0 (get_or kept (seen_from + t) 0) ≡ any (link_count s) (comes s σ t)
  unfolding counted_by comes
  comes-kept =
      rw c.seen
      (ap (λ (x : ℕ). ltb x (sum (link_count s) (counted_by (into s t) one_by (known s σ)))) (sym (sum_zeros (link_count s) (λ l. 0) (λ l k. refl)))
      ∙ any-ltb (link_count s) (λ l. 0) (counted_by (into s t) one_by (known s σ)) (comes s σ t) (λ l k. omega arith) (λ l k. is (both (eqb (target_of s l) t) (placed σ (source_of s l)))))
    where
      is : (a : Bool) → a ≡ ltb 0 (pick a 1 0)
      is true = refl
      is false = refl

  -- as the code reads it: x of n links are known
  module _ {x n : ℕ} (ex : x ≡ get_or kept (seen_from + t) 0) (en : n ≡ get_or kept t 0) where
    pub ready-kept : placed σ t ≡ false → eqb x n ≡ ready s σ t
    unfolding ready
    ready-kept e = rw (e, ex, en) satisfied-kept

    partly-is : placed σ t ≡ false → both (ltb 0 x) (ltb x n) ≡ partly_ready s σ t
    unfolding partly_ready
    partly-is e = rw (e, ex, en, comes-kept, lacks-kept)

    pub partly-some : placed σ t ≡ false → 0 < x → ltb x n ≡ partly_ready s σ t
    partly-some e l = ap (λ (b : Bool). both b (ltb x n)) (sym (lt-ltb 0 x l)) ∙ partly-is e

    pub partly_none : placed σ t ≡ false → x ≤ 0 → false ≡ partly_ready s σ t
    partly_none e l = ap (λ (b : Bool). both b (ltb x n)) (sym (le-ltb 0 x l)) ∙ partly-is e

    -- t waits for none
    pub all_known : placed σ t ≡ false → x ≡ n → (true ≡ ready s σ t) × (false ≡ partly_ready s σ t)
    all_known e q = (sym (eq-eqb x n q) ∙ ready-kept e, sym (ap (both (ltb 0 x)) (le-ltb x n (omega arith)) ∙ both_false (ltb 0 x)) ∙ partly-is e)

    -- t waits for some, and not for all
    pub some_known : placed σ t ≡ false → any (link_count s) (comes s σ t) ≡ true → x ≢ n → (false ≡ ready s σ t) × (true ≡ partly_ready s σ t)
    some_known e some q =
        (sym (ne_eqb x n q) ∙ ready-kept e, sym (ap₂ both (ap (ltb 0) ex ∙ comes-kept ∙ some) (lt-ltb x n (omega (arith, few)))) ∙ partly-is e)
