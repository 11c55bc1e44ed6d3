-- What is kept gives starts and fits.
use Prim.Native.Nat.{ℕ, ◌+◌, ◌<◌}
use mathlib.Core.Bool.{Bool, true, false}
use mathlib.Core.Path.{◌≡◌, refl, sym, ◌∙◌}
use mathlib.Core.List.{List}
use native.Mathlib.Omega.{arith}
use native.Mathlib.Decide.{dec_lt}
use borrow.Author.Tests.{lt-leb, le-leb, ltb-false}
use lib.ListN.{get_or}
use lib.Dec.{eqb, leb}
use Rattle.folds.proofs.Laws.{none_any, term-le-sum}
use Rattle.folds.proofs.Tests.{both-parts}
use Rattle.sheet.specs.Sheet.{Sheet, link_count, source_of, target_of, store_of}
use Rattle.sheet.specs.Tables.{sheet_in}
use Rattle.planner.specs.Schedule.{Schedule, put, placed, stands, place_of}
use Rattle.planner.specs.Placing.{start_on, fits, store_on, holds_by, holds_predecessor}
use Rattle.planner.proofs.Ready.{ready-free, ready-source}
use Rattle.planner.proofs.Finishes.{start-early, into-le}
use Rattle.schedule.specs.Layout.{schedule_in}
use Rattle.schedule.proofs.Rows.{on_long, finish_long}
use Rattle.arrivals.specs.Layout.{bytes_from, stores_from, turn_bytes_from, turn_links_from}
use Rattle.arrivals.specs.Kept.{counted_by, into_from, one_by, known}
use Rattle.arrivals.specs.Steps.{Placeable}
use Rattle.arrivals.proofs.Placing.{stands-placed, store-put}
use Rattle.placing.specs.Choosing.{Choosing}

-- the ready task can go on k
pub placeable : (w own : List ℕ) (t k : ℕ) → Choosing w own t → k < 16 → Placeable (sheet_in w) (schedule_in w) t k
unfolding placed
placeable w own t k c k-in =
    record {
      ranged = c.kept.ranged;
      on_long = on_long w;
      finish_long = finish_long w;
      task = c.task;
      on = k-in;
      free = ltb-false (place_of (schedule_in w) t) 16 (ready-free (sheet_in w) (schedule_in w) t c.is_ready);
      ready = λ l h e. ready-source (sheet_in w) (schedule_in w) t l c.is_ready h e;
      closed = c.kept.caches.closed;
    }

-- a start fits a word
pub start_small : (w own : List ℕ) (t k : ℕ) → Choosing w own t → k < 16 → start_on (sheet_in w) (schedule_in w) t k < 4294967296
start_small w own t k c h =
    let ranged = c.kept.ranged in
    omega (
      arith,
      start-early (sheet_in w) (schedule_in w) t _ c.early.early k h,
      into-le (sheet_in w) ranged.few_links (λ l m. omega (arith, ranged.costs l m)) (omega (arith, ranged.unpacks)) t (link_count (sheet_in w)) (omega arith),
    )

-- k from which no link leads to t holds no predecessor of it
module _ (w own : List ℕ) (t k : ℕ) (c : Choosing w own t) (k-in : k < 16) where
  abbrev s : Sheet
  s = sheet_in w

  abbrev σ : Schedule
  σ = schedule_in w

  held_one : (l : ℕ) → holds_by s σ t k l ≡ true → counted_by (into_from s σ t k) one_by (known s σ) l ≡ 1
  unfolding holds_by counted_by
  held_one l q = rw (q, stands-placed σ k k-in (source_of s l) (both-parts (eqb (target_of s l) t) (stands σ (source_of s l) k) q).1)

  pub holds-none : {n : ℕ} → n ≡ get_or own (turn_links_from + k) 0 → n ≡ 0 → holds_predecessor s σ t k ≡ false
  unfolding holds_predecessor
  holds-none en e = none_any (link_count s) (holds_by s σ t k) (λ l h. go l h (holds_by s σ t k l) refl)
    where
      go : (l : ℕ) → l < link_count s → (b : Bool) → holds_by s σ t k l ≡ b → holds_by s σ t k l ≡ false
      go l h true q = absurd (omega (arith, held_one l q, term-le-sum (link_count s) (counted_by (into_from s σ t k) one_by (known s σ)) l h, c.surveyed.number k k-in))
      go l h false q = q

-- t fits k: what is kept of k's store and of t's links, against the limit and what is on k already
pub fits_kept : (w own : List ℕ) (t k : ℕ) → Choosing w own t → k < 16 → {x y z v m : ℕ} → x ≡ get_or own (stores_from + k) 0 → y ≡ store_of (sheet_in w) t → z ≡ get_or own (bytes_from + t) 0 → m ≡ (sheet_in w).limit
    → v ≡ get_or own (turn_bytes_from + k) 0 → leb (x + y + z) (m + v) ≡ fits (sheet_in w) (schedule_in w) t k
unfolding fits
fits_kept w own t k choosing k-in {x} {y} {z} {v} {m} ex ey ez em ev =
    let s = sheet_in w in
    let σ = schedule_in w in
    let e = store-put s σ t k 0 0 (placeable w own t k choosing k-in) in
    let a = choosing.kept.caches.ends.stores k k-in in
    let b = choosing.kept.caches.gathered.bytes t choosing.task in
    let d = choosing.surveyed.bytes k k-in in
    let q : x + y + z ≡ store_on s (put σ t k 0 0) k + v = omega arith in
    rw (q, em) (cancel (store_on s (put σ t k 0 0) k) s.limit v (dec_lt s.limit (store_on s (put σ t k 0 0) k)))
  where
    cancel : (x y z : ℕ) → Dec (y < x) → leb (x + z) (y + z) ≡ leb x y
    cancel x y z (yes h) = lt-leb (x + z) (y + z) (omega arith) ∙ sym (lt-leb x y h)
    cancel x y z (no h) = le-leb (x + z) (y + z) (omega arith) ∙ sym (le-leb x y (omega arith))
