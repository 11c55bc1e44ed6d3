-- The walk over the links out of t, each of which is counted in turn.
use Prim.Native.Nat.{ℕ, ◌+◌, ◌*◌, ◌≤◌, ◌<◌}
use mathlib.Core.Bool.{Bool, true, false, not}
use mathlib.Core.Path.{◌≡◌, refl, sym, ◌∙◌}
use mathlib.Core.Logic.{◌≢◌}
use mathlib.Core.List.{List}
use native.Mathlib.Omega.{arith}
use native.Mathlib.Decide.{dec_lt, ℕ_discrete}
use borrow.Author.Tests.{ne_eqb, lt-ltb, le-ltb}
use lib.ListN.{length, get_or}
use lib.Dec.{eqb, ltb}
use Rattle.folds.specs.Folds.{pick, both, either}
use Rattle.folds.proofs.Tests.{either_true}
use Rattle.folds.proofs.Laws.{sum-cong, greatest-cong}
use Rattle.sheet.specs.Sheet.{Sheet, task_count, link_count, source_of, target_of}
use Rattle.sheet.specs.Tables.{sheet_in, Loaded}
use Rattle.sheet.proofs.Rows.{ranged}
use Rattle.planner.specs.Schedule.{Schedule, placed}
use Rattle.planner.specs.Placing.{reach_by}
use Rattle.schedule.specs.Layout.{schedule_in}
use Rattle.adjacency.specs.Chains.{head_of, next_of, Chained}
use Rattle.adjacency.specs.declared.End.TheVariants.{Source}
use Rattle.arrivals.specs.Layout.{bytes_from, seen_from, arrivals_from, senders_from, ends_from, stores_from, open_from, waiting_from, turn_bytes_from, packed_from, kept_length}
use Rattle.arrivals.specs.Kept.{counted_by, into, known, one_by, Single, Gathered, Counted, Ends, Kept, Arrived}
use Rattle.arrivals.specs.Steps.{up_to, Beside}
use Rattle.arrivals.proofs.Fours.{four-cong}

-- the same links counted
pub counted_same : {s : Sheet} {σ : Schedule} {c : ℕ → Bool} (c' : ℕ → Bool) {w : List ℕ} → ((l : ℕ) → l < link_count s → c l ≡ c' l) → Counted s σ c w → Counted s σ c' w
unfolding counted_by
counted_same {s} {σ} {c} c' {w} e d =
    record {
      seen = λ t h. d.seen t h ∙ sum-cong (link_count s) _ _ (λ l k. rw (e l k));
      arrived = λ t h. d.arrived t h ∙ greatest-cong (link_count s) _ _ (λ l k. rw (e l k));
      main = λ t h. d.main t h ∙ greatest-cong (link_count s) _ _ (λ l k. rw (e l k));
      pending = λ j h. d.pending j h ∙ sum-cong (link_count s) _ _ (λ l k. rw (e l k));
      packed = λ t j h g. d.packed t j h g ∙ four-cong _ _ (λ i p. sum-cong (link_count s) _ _ (λ l k. rw (e l k)));
    }

-- between two links out of t none is counted
up-skip : (s : Sheet) (σ : Schedule) (t a b l : ℕ) → ((i : ℕ) → a ≤ i → i < b → source_of s i ≢ t) → a ≤ b → up_to s σ t a l ≡ up_to s σ t b l
unfolding up_to
up-skip s σ t a b l none h = go (dec_lt l a) (dec_lt l b)
  where
    go : Dec (l < a) → Dec (l < b) → both (placed σ (source_of s l)) (either (not (eqb (source_of s l) t)) (ltb l a)) ≡ both (placed σ (source_of s l)) (either (not (eqb (source_of s l) t)) (ltb l b))
    go (yes p) q = rw (lt-ltb l a p, lt-ltb l b (omega arith))
    go (no p) (yes q) = rw (ne_eqb (source_of s l) t (none l (omega arith) q))
    go (no p) (no q) = rw (le-ltb l a (omega arith), le-ltb l b (omega arith))

-- all links from placed tasks, once those from t are
up-all : (s : Sheet) (σ : Schedule) (t m l : ℕ) → (source_of s l ≡ t → l < m) → up_to s σ t m l ≡ placed σ (source_of s l)
unfolding up_to
up-all s σ t m l h = go (ℕ_discrete (source_of s l) t)
  where
    both_true : (a : Bool) → both a true ≡ a
    both_true true = refl
    both_true false = refl

    go : Dec (source_of s l ≡ t) → both (placed σ (source_of s l)) (either (not (eqb (source_of s l) t)) (ltb l m)) ≡ placed σ (source_of s l)
    go (yes e) = rw (lt-ltb l m (h e), either_true (not (eqb (source_of s l) t))) (both_true (placed σ (source_of s l)))
    go (no e) = rw (ne_eqb (source_of s l) t e) (both_true (placed σ (source_of s l)))

-- words that are the same say the same
pub counted-frame : {s : Sheet} {σ : Schedule} {c : ℕ → Bool} {w w' : List ℕ} → task_count s ≤ 256 → ((i : ℕ) → seen_from ≤ i → i < ends_from → get_or w' i 0 ≡ get_or w i 0) → ((i : ℕ) → waiting_from ≤ i → i < turn_bytes_from → get_or w' i 0 ≡ get_or w i 0)
    → ((i : ℕ) → packed_from ≤ i → get_or w' i 0 ≡ get_or w i 0)
    → Counted s σ c w → Counted s σ c w'
counted-frame few f g p d =
    record {
      seen = λ t h. f (seen_from + t) (omega arith) (omega arith) ∙ d.seen t h;
      arrived = λ t h. f (arrivals_from + t) (omega arith) (omega arith) ∙ d.arrived t h;
      main = λ t h. rw (f (senders_from + t) (omega arith) (omega arith)) (f (arrivals_from + t) (omega arith) (omega arith) ∙ d.main t h);
      pending = λ k h. g (waiting_from + k) (omega arith) (omega arith) ∙ d.pending k h;
      packed = λ t j h l. p (packed_from + (4 * t + j)) (omega arith) ∙ d.packed t j h l;
    }

pub gathered-frame : {s : Sheet} {w w' : List ℕ} → task_count s ≤ 256 → ((i : ℕ) → 0 ≤ i → i < seen_from → get_or w' i 0 ≡ get_or w i 0) → Gathered s w → Gathered s w'
gathered-frame few f d =
    record { number = λ t h. f t (omega arith) (omega arith) ∙ d.number t h; bytes = λ t h. f (bytes_from + t) (omega arith) (omega arith) ∙ d.bytes t h }

pub ends-frame : {s : Sheet} {σ : Schedule} {w w' : List ℕ} → ((i : ℕ) → ends_from ≤ i → i < waiting_from → get_or w' i 0 ≡ get_or w i 0) → Ends s σ w → Ends s σ w'
ends-frame f d =
    record { ends = λ k h. f (ends_from + k) (omega arith) (omega arith) ∙ d.ends k h; stores = λ k h. f (stores_from + k) (omega arith) (omega arith) ∙ d.stores k h; opens = λ k h. f (open_from + k) (omega arith) (omega arith) ∙ d.opens k h }

beside_none : (w : List ℕ) → Beside w w
beside_none w = record { long = refl; low = λ i h. refl; mid = λ i h g. refl }

beside_trans : {u v w : List ℕ} → Beside u v → Beside v w → Beside u w
beside_trans p q = record { long = q.long ∙ p.long; low = λ i h. q.low i h ∙ p.low i h; mid = λ i h g. q.mid i h g ∙ p.mid i h g }

-- the walk, at link l
pub record Walking (s : Sheet) (σ : Schedule) (t l : ℕ) (kept₀ kept : List ℕ) : Type 0 where
  pub beside : Beside kept₀ kept
  pub here : l ≤ link_count s
  pub own : l < link_count s → source_of s l ≡ t
  pub counted : Counted s σ (up_to s σ t l) kept

module _ {s : Sheet} {σ : Schedule} {w : List ℕ} (chained : Chained Source s w) (t : ℕ) (t-in : t < task_count s) where
  pub walk_begins : {l : ℕ} {kept : List ℕ} → l ≡ head_of Source w t → l ≤ link_count s → Counted s σ (up_to s σ t 0) kept → Walking s σ t l kept kept
  walk_begins {l} {kept} e h d =
      record {
        beside = beside_none kept;
        here = h;
        own = λ k. rw e (chained.head_own t t-in (rw e at k));
        counted = counted_same (up_to s σ t l) (λ i k. up-skip s σ t 0 l i (λ j p q. chained.head_none t t-in j (rw e at q)) (omega arith)) d;
      }

  pub walk_more : {l l' : ℕ} {kept₀ kept kept' : List ℕ} → Walking s σ t l kept₀ kept → Beside kept kept' → l < link_count s → l' ≡ next_of Source w l → l' ≤ link_count s → l < l'
      → Counted s σ (up_to s σ t (l + 1)) kept' → Walking s σ t l' kept₀ kept'
  walk_more {l} {l'} g f h e few more d =
      record {
        beside = beside_trans g.beside f;
        here = few;
        own = λ k. rw e (chained.next_own l h (rw e at k)) ∙ g.own h;
        counted = counted_same (up_to s σ t l') (λ i k. up-skip s σ t (l + 1) l' i (λ j x y z. chained.next_none l h j (omega arith) (rw e at y) (z ∙ sym (g.own h))) (omega arith)) d;
      }

pub walk-done : {s : Sheet} {σ : Schedule} {t l : ℕ} {kept₀ kept : List ℕ} → link_count s ≤ l → Walking s σ t l kept₀ kept → Beside kept₀ kept × Counted s σ (known s σ) kept
walk-done {s} {σ} {t} {l} h g =
    let e : l ≡ link_count s = omega (arith, g.here) in
    (g.beside, counted_same (known s σ) (λ i k. up-all s σ t l i (λ own. rw e k)) g.counted)

pub kept-arrived : {w own : List ℕ} → Kept w own → (t : ℕ) → t < task_count (sheet_in w) → Arrived w own t
kept-arrived k t h =
    record {
      long = omega (arith, k.long);
      loaded = k.loaded;
      ranged = k.ranged;
      task = h;
      number = k.caches.gathered.number t h;
      seen = k.caches.counted.seen t h;
      arrived = k.caches.counted.arrived t h;
    }

-- link l out of t is counted: no other one joins t and its target v, so that all known links into v are
module _ {w : List ℕ} (loaded : Loaded w) (single : Single (sheet_in w)) {t l v : ℕ} (l-in : l < link_count (sheet_in w)) (from-t : source_of (sheet_in w) l ≡ t) (ev : v ≡ target_of (sheet_in w) l) where
  abbrev s : Sheet
  s = sheet_in w

  abbrev σ : Schedule
  σ = schedule_in w

  into-same : (x : ℕ → ℕ) (i : ℕ) → i < link_count s → counted_by (into s v) x (up_to s σ t (l + 1)) i ≡ counted_by (into s v) x (known s σ) i
  unfolding counted_by
  into-same x i h = go (ℕ_discrete (target_of s i) v)
    where
      go : Dec (target_of s i ≡ v) → pick (both (eqb (target_of s i) v) (up_to s σ t (l + 1) i)) (x i) 0 ≡ pick (both (eqb (target_of s i) v) (placed σ (source_of s i))) (x i) 0
      go (yes d) = rw (up-all s σ t (l + 1) i (λ e. omega (arith, single.once i l h l-in (e ∙ sym from-t) (d ∙ ev))))
      go (no d) = rw (ne_eqb (target_of s i) v d)

  pub target-arrived : {kept₀ kept kept' : List ℕ} → kept_length ≤ length kept₀ → Gathered s kept₀ → Walking s σ t l kept₀ kept → Beside kept kept' → Counted s σ (up_to s σ t (l + 1)) kept' → Arrived w kept' v
  target-arrived long gathered g f counted =
      let range = ranged w loaded in
      let h : v < task_count s = rw ev (range.target l l-in) in
      let beside = beside_trans g.beside f in
      record {
        long = omega (arith, beside.long);
        loaded = loaded;
        ranged = range;
        task = h;
        number = beside.low v (omega (arith, range.few_tasks)) ∙ gathered.number v h;
        seen = counted.seen v h ∙ sum-cong (link_count s) _ _ (into-same one_by);
        arrived = counted.arrived v h ∙ greatest-cong (link_count s) _ _ (into-same (reach_by s σ));
      }
