-- A walk over the links into t: its starts, on one processor and on all, by the links below l.
use Prim.Native.Nat.{ℕ, ◌+◌, ◌*◌, ◌≤◌, ◌<◌, max}
use mathlib.Core.Bool.{Bool, true, false, not}
use mathlib.Core.Path.{◌≡◌, refl, ap, ap₂, sym, ◌∙◌}
use mathlib.Core.Logic.{◌≢◌}
use mathlib.Core.List.{List}
use native.Mathlib.Omega.{arith}
use native.Mathlib.Decide.{ℕ_discrete}
use borrow.Author.Tests.{eq-eqb, ne_eqb, le-ltb, ltb-true}
use lib.ListN.{get_or}
use lib.Dec.{eqb, ltb}
use Rattle.folds.specs.Folds.{pick, greatest}
use Rattle.folds.proofs.Laws.{greatest-le, term-le-greatest}
use Rattle.sheet.specs.Sheet.{Sheet, task_count, link_count, source_of, target_of, cost_of}
use Rattle.sheet.specs.Hops.{hops, link_time}
use Rattle.sheet.proofs.Hopping.{flat-time}
use Rattle.sheet.specs.Tables.{Ranged}
use Rattle.planner.specs.Schedule.{Schedule, placed, place_of, stands, finish_of}
use Rattle.planner.specs.Placing.{comes, reach_by, reach_on, elsewhere, end_by, end_of, start_by, start_from, start_on}
use Rattle.planner.proofs.Unpacking.{unpacked-from, start-unpacked}
use Rattle.planner.proofs.Finishes.{receives-early, into-le}
use Rattle.adjacency.specs.Chains.{head_of, next_of, Chained}
use Rattle.adjacency.specs.declared.End.TheVariants.{Target}
use Rattle.adjacency.proofs.Walks.{greatest-first, greatest-next}
use Rattle.arrivals.specs.Layout.{ends_from}
use Rattle.arrivals.specs.Kept.{Ends, Caches}
use Rattle.arrivals.specs.Lanes.{lane, Lanes, Steps, Away, start_past, start_unpacked, start_hopped, start_beyond, start_to, partly_to, Soon, Early}
use Rattle.arrivals.specs.declared.Starts.{Starts}
use Rattle.arrivals.specs.declared.Row.{Row}
use Rattle.arrivals.proofs.Numbered.{Walking, walk_begins, walk-ended, walk_more, walk-there}
use Rattle.arrivals.proofs.Unpacking.{unpacked-first, unpacked-next, comes-else}

-- the time of a message by its cost
pub time-hopped : (s : Sheet) (l j k : ℕ) {c r : ℕ} → s.cube ≡ true → c ≡ cost_of s l → r ≡ c * hops j k → r ≡ link_time s l j k
unfolding link_time
time-hopped s l j k cubic ec er = er ∙ ap (λ (x : ℕ). x * hops j k) ec ∙ sym (ap (λ (b : Bool). pick b (cost_of s l * hops j k) (cost_of s l)) cubic)

pub time-flat : (s : Sheet) (l j k : ℕ) {c : ℕ} → s.cube ≡ false → c ≡ cost_of s l → c ≡ link_time s l j k
time-flat s l j k flat ec = ec ∙ sym (flat-time s l j k flat)

-- a placed task stands on the board
pub placed-low : (σ : Schedule) (u : ℕ) {k v : ℕ} → k ≡ place_of σ v → v ≡ u → placed σ u ≡ true → k < 16
unfolding placed
placed-low σ u e q p = omega (arith, e ∙ ap (place_of σ) q, ltb-true (place_of σ u) 16 p)

-- a lane past link l: on a cube, and elsewhere where receives take no time, and where they do
module _ (s : Sheet) (σ : Schedule) (l : ℕ) (q : Starts) (k : ℕ) where
  abbrev hopped : ℕ
  hopped = start_unpacked (place_of σ (source_of s l)) (reach_on s σ k l) s.unpacking k (lane q k)

  abbrev past : ℕ
  past = start_past (place_of σ (source_of s l)) (finish_of σ (source_of s l)) (cost_of s l) k (lane q k)

  abbrev received : ℕ
  received = start_unpacked (place_of σ (source_of s l)) (reach_by s σ l) s.unpacking k (lane q k)

  flat-lane : s.cube ≡ false → (b : Bool) → eqb s.unpacking 0 ≡ b → pick b past received ≡ start_beyond s σ l k (lane q k)
  unfolding start_beyond
  flat-lane flat b e =
      sym (ap (λ (x : Bool). pick x hopped (pick (eqb s.unpacking 0) past received)) flat ∙ ap (λ (x : Bool). pick x past received) e)

  cube-lane : s.cube ≡ true → hopped ≡ start_beyond s σ l k (lane q k)
  unfolding start_beyond
  cube-lane cubic = sym (ap (λ (x : Bool). pick x hopped (pick (eqb s.unpacking 0) past received)) cubic)

-- the numbers of a link as the code reads them
module _ (s : Sheet) (σ : Schedule) (l : ℕ) (q : Starts) {a f x u : ℕ} {r : Starts} (ea : a ≡ place_of σ (source_of s l)) (ef : f ≡ finish_of σ (source_of s l)) (ex : x ≡ cost_of s l) (eu : u ≡ s.unpacking) where
  pub beyond-plain : s.cube ≡ false → u ≡ 0 → Steps (start_past a f x) q r → Steps (start_beyond s σ l) q r
  beyond-plain flat z h = record { on = λ k m. h.on k m ∙ rw (ea, ef, ex) (flat-lane s σ l q k flat true (eq-eqb s.unpacking 0 (sym eu ∙ z))) }

  pub beyond-unpacked : s.cube ≡ false → u ≢ 0 → Steps (start_unpacked a (f + x) u) q r → Steps (start_beyond s σ l) q r
  beyond-unpacked flat z h = record { on = λ k m. h.on k m ∙ rw (ea, ef, ex, eu) (flat-lane s σ l q k flat false (ne_eqb s.unpacking 0 (λ e. z (eu ∙ e)))) }

  pub beyond-hopped : s.cube ≡ true → {row : Row} {c : ℕ} → c ≡ x → Away a row → Steps (start_hopped row a f c u) q r → Steps (start_beyond s σ l) q r
  unfolding start_hopped
  beyond-hopped cubic {row} {c} ec away h =
      record {
        on =
            λ k m.
            let time : c * get_or row.at k 0 ≡ link_time s l (place_of σ (source_of s l)) k = rw (away.on k m, ea) (time-hopped s l (place_of σ (source_of s l)) k cubic (ec ∙ ex) refl) in
            h.on k m ∙ rw (time, ea, ef, eu) (cube-lane s σ l q k cubic);
      }

module _ (s : Sheet) (σ : Schedule) (t : ℕ) where
  -- a link that leads elsewhere gives nothing
  by-else : (k l : ℕ) → l < link_count s → target_of s l ≢ t → start_by s σ t k l ≡ 0
  unfolding start_by comes
  by-else k l h d = rw (ne_eqb (target_of s l) t d)

  else-else : (k l : ℕ) → l < link_count s → target_of s l ≢ t → elsewhere s σ t k l ≡ false
  unfolding elsewhere
  else-else k l h d = rw (comes-else s σ t l h d)

  -- a link from a placed task, as a lane passes it
  pub beyond-is : (l : ℕ) → target_of s l ≡ t → placed σ (source_of s l) ≡ true → source_of s l < task_count s → (k x : ℕ) → end_of s σ k ≤ x
      → start_beyond s σ l k x ≡ pick (elsewhere s σ t k l) (max x (reach_on s σ k l) + s.unpacking) x
  unfolding start_beyond start_past start_unpacked elsewhere comes stands end_of end_by
  beyond-is l e p h k x late = rw (eq-eqb (target_of s l) t e, p) (by s.cube refl)
    where
      received : (own : Bool) → pick own x (max x (reach_on s σ k l) + s.unpacking) ≡ pick (not own) (max x (reach_on s σ k l) + s.unpacking) x
      received true = refl
      received false = refl

      go : link_time s l (place_of σ (source_of s l)) k ≡ cost_of s l → Dec (s.unpacking ≡ 0) → (own : Bool) → eqb (place_of σ (source_of s l)) k ≡ own
          → pick (eqb s.unpacking 0) (max x (finish_of σ (source_of s l) + pick own 0 (cost_of s l))) (pick own x (max x (reach_by s σ l) + s.unpacking)) ≡ pick (not own) (max x (reach_on s σ k l) + s.unpacking) x
      go c (no d) true q = rw (ne_eqb s.unpacking 0 d)
      go c (no d) false q = rw (ne_eqb s.unpacking 0 d) (omega (arith, c))
      go c (yes z) true q =
          rw (eq-eqb s.unpacking 0 z) (omega (arith, late, term-le-greatest (task_count s) (end_by s σ k) (source_of s l) h, ap (λ (u : Bool). pick u (finish_of σ (source_of s l)) 0) q))
      go c (yes z) false q = rw (eq-eqb s.unpacking 0 z) (omega (arith, z, c))

      by : (cubic : Bool) → s.cube ≡ cubic
          → pick cubic (pick (eqb (place_of σ (source_of s l)) k) x (max x (reach_on s σ k l) + s.unpacking)) (pick (eqb s.unpacking 0) (max x (finish_of σ (source_of s l) + pick (eqb (place_of σ (source_of s l)) k) 0 (cost_of s l))) (pick (eqb (place_of σ (source_of s l)) k) x (max x (reach_by s σ l) + s.unpacking)))
          ≡ pick (not (eqb (place_of σ (source_of s l)) k)) (max x (reach_on s σ k l) + s.unpacking) x
      by true q = received (eqb (place_of σ (source_of s l)) k)
      by false q = go (flat-time s l (place_of σ (source_of s l)) k q) (ℕ_discrete s.unpacking 0) (eqb (place_of σ (source_of s l)) k) refl

  pub start_is : ((l : ℕ) → l < link_count s → source_of s l < task_count s) → (k : ℕ) → start_to s σ t (link_count s) k ≡ start_on s σ t k
  unfolding start_to
  start_is declared k = start-unpacked s σ t k declared

  start-late : (l k : ℕ) → end_of s σ k ≤ start_to s σ t l k
  unfolding start_to
  start-late l k = unpacked-from s (elsewhere s σ t k) (reach_on s σ k) (end_of s σ k) l

  pub partly-is : (k : ℕ) → partly_to s σ t (link_count s) k ≡ start_from s σ t k (end_of s σ k)
  unfolding partly_to start_from
  partly-is k = refl

  pub partly-rises : (k : ℕ) {l : ℕ} → l ≤ link_count s → partly_to s σ t l k ≤ start_from s σ t k (end_of s σ k)
  unfolding partly_to start_from
  partly-rises k {l} h =
      omega (arith, greatest-le l (start_by s σ t k) (greatest (link_count s) (start_by s σ t k)) (λ i m. term-le-greatest (link_count s) (start_by s σ t k) i (omega arith)))

  module _ {w : List ℕ} (chained : Chained Target s w) (t-in : t < task_count s) where
    pub partly-first : {l : ℕ} → l ≡ head_of Target w t → l ≤ link_count s → (k : ℕ) → end_of s σ k ≡ partly_to s σ t l k
    unfolding partly_to
    partly-first e h k = omega (arith, greatest-first chained t t-in (start_by s σ t k) (by-else k) e h)

    pub partly-next : {l l' : ℕ} → l < link_count s → target_of s l ≡ t → l' ≡ next_of Target w l → l < l' → l' ≤ link_count s → (k : ℕ) → max (partly_to s σ t l k) (start_by s σ t k l) ≡ partly_to s σ t l' k
    unfolding partly_to
    partly-next h own e more few k = omega (arith, greatest-next chained t t-in (start_by s σ t k) (by-else k) h own e more few)

    -- all sixteen
    pub starts_first : {l : ℕ} {own : List ℕ} {r : Starts} → l ≡ head_of Target w t → l ≤ link_count s → Ends s σ own → Lanes (λ k. get_or own (ends_from + k) 0) r → Lanes (start_to s σ t l) r
    unfolding start_to
    starts_first e h ends g =
        record { on = λ k m. g.on k m ∙ ends.ends k m ∙ unpacked-first chained t t-in (elsewhere s σ t k) (else-else k) (reach_on s σ k) (end_of s σ k) e h }

    pub starts-next : {l l' : ℕ} {q r : Starts} → l < link_count s → target_of s l ≡ t → placed σ (source_of s l) ≡ true → source_of s l < task_count s → l' ≡ next_of Target w l → l < l' → l' ≤ link_count s
        → Steps (start_beyond s σ l) q r → Lanes (start_to s σ t l) q → Lanes (start_to s σ t l') r
    unfolding start_to
    starts-next {l} h own on source e more few step g =
        record {
          on =
              λ k m. step.on k m ∙ ap (start_beyond s σ l k) (g.on k m) ∙ beyond-is l own on source k (start_to s σ t l k) (start-late l k) ∙
              unpacked-next chained t t-in (elsewhere s σ t k) (else-else k) (reach_on s σ k) (end_of s σ k) h own e more few;
        }

  pub starts-done : {l : ℕ} {r : Starts} → ((l : ℕ) → l < link_count s → source_of s l < task_count s) → l ≡ link_count s → Lanes (start_to s σ t l) r → Lanes (start_on s σ t) r
  starts-done declared e g = record { on = λ k m. g.on k m ∙ ap (λ (n : ℕ). start_to s σ t n k) e ∙ start_is declared k }

  -- they stay small
  pub starts-soon : {l : ℕ} {r : Starts} → l ≤ link_count s → Ranged s → Early σ → Lanes (start_to s σ t l) r → Soon r
  unfolding start_to
  starts-soon {l} h ranged early g =
      record {
        soon =
            λ k m. omega (
              arith,
              g.on k m,
              receives-early s σ t _ early.early k m l,
              into-le s ranged.few_links (λ i n. omega (arith, ranged.costs i n)) (omega (arith, ranged.unpacks)) t l h,
            );
      }

  -- a link as one processor alone looks at it
  pub by-is : (k l : ℕ) {at f x y r : ℕ} → target_of s l ≡ t → at ≡ place_of σ (source_of s l) → f ≡ finish_of σ (source_of s l) → (at < 16 → x ≡ link_time s l at k) → y ≡ pick (eqb at k) 0 x → r ≡ pick (ltb at 16) (f + y) 0 → r ≡ start_by s σ t k l
  unfolding start_by comes placed stands
  by-is k l {at} {f} {x} {y} {r} e ea ef ex ey er = er ∙ rw (eq-eqb (target_of s l) t e, ← ea, ← ef, ey) (go (ltb at 16) refl)
    where
      go : (b : Bool) → ltb at 16 ≡ b → pick b (f + pick (eqb at k) 0 x) 0 ≡ pick b (f + pick (eqb at k) 0 (link_time s l at k)) 0
      go true q = rw (ex (ltb-true at 16 q))
      go false q = refl

-- the walk over the links into t for its start on k alone, at link l, after i links
pub record Waiting (s : Sheet) (σ : Schedule) (t k i l x : ℕ) : Type 0 where
  pub walk : Walking s t i l
  pub start : x ≡ partly_to s σ t l k

module _ {s : Sheet} {σ : Schedule} {w own : List ℕ} (c : Caches s σ w own) (t k : ℕ) (t-in : t < task_count s) where
  pub wait-begins : {l x : ℕ} → k < 16 → l ≡ head_of Target w t → l ≤ link_count s → x ≡ get_or own (ends_from + k) 0 → Waiting s σ t k 0 l x
  wait-begins m e h ex = record { walk = walk_begins c.inward c.gathered t t-in e h; start = ex ∙ c.ends.ends k m ∙ partly-first s σ t c.inward t-in e h k }

  module _ {i l x : ℕ} (g : Waiting s σ t k i l x) where
    -- there is a link more
    pub wait-there : {n : ℕ} → n ≡ get_or own t 0 → i < n → l < link_count s
    wait-there e h = walk-there c.inward c.gathered t t-in g.walk e h

    pub wait-more : {l' v x' : ℕ} → l < link_count s → l' ≡ next_of Target w l → l < l' → l' ≤ link_count s → v ≡ start_by s σ (target_of s l) k l → x' ≡ max x v → Waiting s σ t k (i + 1) l' x'
    wait-more {l'} h e more few ev ex =
        let own = g.walk.own h in
        record {
          walk = walk_more c.inward c.gathered t t-in g.walk h e more few;
          start = ex ∙ ap₂ max g.start (ev ∙ ap (λ (u : ℕ). start_by s σ u k l) own) ∙ partly-next s σ t c.inward t-in h own e more few k;
        }

    -- it starts no earlier than by the links so far
    pub wait-late : {limit : ℕ} → limit ≤ x → false ≡ ltb (start_from s σ t k (end_of s σ k)) limit
    wait-late {limit} h = sym (le-ltb (start_from s σ t k (end_of s σ k)) limit (omega (arith, g.start, partly-rises s σ t k g.walk.here)))

    pub wait-done : {n : ℕ} (limit : ℕ) → n ≡ get_or own t 0 → n ≤ i → ltb x limit ≡ ltb (start_from s σ t k (end_of s σ k)) limit
    wait-done limit e h =
        ap (λ (y : ℕ). ltb y limit) (g.start ∙ ap (λ (n : ℕ). partly_to s σ t n k) (walk-ended c.inward c.gathered t t-in g.walk e h) ∙ partly-is s σ t k)
