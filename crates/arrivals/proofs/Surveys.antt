-- The links into the task of this turn, by the processor that they come from.
use Prim.Native.Nat.{ℕ, ◌+◌, ◌*◌, ◌-◌, ◌≤◌, ◌<◌}
use mathlib.Core.Bool.{Bool, true, false}
use mathlib.Core.Path.{◌≡◌, ap, ap₂, sym, ◌∙◌, subst}
use mathlib.Core.Logic.{◌≢◌}
use mathlib.Core.List.{List}
use native.Mathlib.Omega.{arith}
use native.Mathlib.Decide.{ℕ_discrete}
use borrow.Author.Tests.{eq-eqb, ne_eqb, ltb-true}
use lib.ListN.{length, get_or, set, length-set}
use lib.Seq.{get_or-set_same, get_or-set_other}
use Rattle.folds.specs.Folds.{both, sum}
use Rattle.folds.proofs.Tests.{pick-le}
use Rattle.folds.proofs.Loops.{sum-zero, sum_one}
use Rattle.folds.proofs.Laws.{sum-le, sum-skip}
use Rattle.sheet.specs.Sheet.{Sheet, task_count, link_count, source_of, target_of, bytes_of}
use Rattle.sheet.specs.Tables.{sheet_in, Ranged}
use Rattle.planner.specs.Schedule.{Schedule, placed, stands, place_of}
use Rattle.planner.specs.Placing.{ready, start_on}
use Rattle.planner.proofs.Ready.{ready-source}
use Rattle.schedule.specs.Layout.{schedule_in}
use Rattle.adjacency.specs.Frames.{Only}
use Rattle.adjacency.specs.Chains.{head_of, next_of, Chained}
use Rattle.adjacency.specs.declared.End.TheVariants.{Target}
use Rattle.adjacency.proofs.Frames.{only_none, only_set, only-trans}
use Rattle.arrivals.specs.Layout.{ends_from, turn_bytes_from, turn_links_from, packed_from, kept_length}
use Rattle.arrivals.specs.Kept.{counted_by, into_from, one_by, known, Gathered, SurveyedTo, Surveyed, Ends, Kept}
use Rattle.arrivals.specs.Lanes.{Lanes, Steps, start_beyond, start_to, Soon, Early}
use Rattle.arrivals.specs.Steps.{Zero}
use Rattle.arrivals.specs.declared.Starts.{Starts}
use Rattle.arrivals.proofs.Numbered.{Walking, walk_begins, walk-ended, walk_more, walk-there}
use Rattle.arrivals.proofs.Reaching.{starts_first, starts-next, starts-done, starts-soon}
use Rattle.arrivals.proofs.Walks.{counted-frame, gathered-frame, ends-frame}

pub survey-none : {s : Sheet} {σ : Schedule} (t : ℕ) {w : List ℕ} → Zero turn_bytes_from packed_from w → SurveyedTo s σ t 0 w
survey-none t z = record { bytes = λ k h. z.at (turn_bytes_from + k) (omega arith) (omega arith) ∙ sym (sum-zero _); number = λ k h. z.at (turn_links_from + k) (omega arith) (omega arith) ∙ sym (sum-zero _) }

pub surveyed-frame : {s : Sheet} {σ : Schedule} {t l : ℕ} {w w' : List ℕ} → ((i : ℕ) → turn_bytes_from ≤ i → i < packed_from → get_or w' i 0 ≡ get_or w i 0) → SurveyedTo s σ t l w → SurveyedTo s σ t l w'
surveyed-frame f d =
    record { bytes = λ k h. f (turn_bytes_from + k) (omega arith) (omega arith) ∙ d.bytes k h; number = λ k h. f (turn_links_from + k) (omega arith) (omega arith) ∙ d.number k h }

-- a placed task stands on a processor
on_one : (σ : Schedule) (u : ℕ) {k : ℕ} → placed σ u ≡ true → k ≡ place_of σ u → k < 16
unfolding placed
on_one σ u p e = omega (arith, ltb-true (place_of σ u) 16 p)

module _ (s : Sheet) (σ : Schedule) (w : List ℕ) (t l : ℕ) (long : kept_length ≤ length w) (ranged : Ranged s) (l-in : l < link_count s) (own : target_of s l ≡ t) (on : placed σ (source_of s l) ≡ true) (d : SurveyedTo s σ t l w)
    (k : ℕ) (ek : k ≡ place_of σ (source_of s l)) where
  k-in : k < 16
  k-in = on_one σ (source_of s l) on ek

  this : into_from s σ t k l ≡ true
  unfolding stands
  this = rw (eq-eqb (target_of s l) t own, eq-eqb (place_of σ (source_of s l)) k (sym ek))

  other : (j : ℕ) → j ≢ k → into_from s σ t j l ≡ false
  unfolding stands
  other j e = rw (eq-eqb (target_of s l) t own, ne_eqb (place_of σ (source_of s l)) j (λ q. e (sym q ∙ sym ek)))

  more : (x : ℕ → ℕ) → sum (l + 1) (counted_by (into_from s σ t k) x (known s σ)) ≡ sum l (counted_by (into_from s σ t k) x (known s σ)) + x l
  unfolding counted_by
  more x = sum_one l (counted_by (into_from s σ t k) x (known s σ)) ∙ rw (this, on)

  else : (j : ℕ) (x : ℕ → ℕ) → j ≢ k → sum (l + 1) (counted_by (into_from s σ t j) x (known s σ)) ≡ sum l (counted_by (into_from s σ t j) x (known s σ))
  unfolding counted_by
  else j x e = sum_one l (counted_by (into_from s σ t j) x (known s σ)) ∙ rw (other j e) (omega arith)

  few : (q : ℕ → Bool) (x : ℕ → ℕ) (b : ℕ) → ((i : ℕ) → i < l → x i ≤ b) → sum l (counted_by q x (known s σ)) ≤ l * b
  unfolding counted_by
  few q x b h = sum-le l b (counted_by q x (known s σ)) (λ i g. pick-le (both (q i) (known s σ i)) (x i) 0 b (h i g) (omega arith))

  pub survey-small : (k < 16) × (get_or w (turn_bytes_from + k) 0 ≤ 67107840) × (get_or w (turn_links_from + k) 0 ≤ 1024)
  survey-small =
      let m = ranged.few_links in
      let h = k-in in (
        h,
        omega (arith, d.bytes k h, few (into_from s σ t k) (bytes_of s) 65535 (λ i g. omega (arith, ranged.sizes i (omega arith)))),
        omega (arith, d.number k h, few (into_from s σ t k) one_by 1 (λ i g. omega arith)),
      )

  module _ (x y : ℕ) (ex : x ≡ get_or w (turn_bytes_from + k) 0 + bytes_of s l) (ey : y ≡ get_or w (turn_links_from + k) 0 + 1) where
    abbrev new : List ℕ
    new = set (set w (turn_bytes_from + k) x) (turn_links_from + k) y

    bytes' : (j : ℕ) → j < 16 → Dec (j ≡ k) → get_or new (turn_bytes_from + j) 0 ≡ sum (l + 1) (counted_by (into_from s σ t j) (bytes_of s) (known s σ))
    bytes' j h (yes e) =
        let a = k-in in
        rw e (get_or-set_other (set w (turn_bytes_from + k) x) (turn_links_from + k) (turn_bytes_from + k) y 0 (omega arith) ∙ get_or-set_same w (turn_bytes_from + k) x 0 (omega arith) ∙ ex ∙ ap (λ (z : ℕ). z + bytes_of s l) (d.bytes k a) ∙ sym (more (bytes_of s)))
    bytes' j h (no e) =
        let a = k-in in
        get_or-set_other (set w (turn_bytes_from + k) x) (turn_links_from + k) (turn_bytes_from + j) y 0 (omega arith) ∙ get_or-set_other w (turn_bytes_from + k) (turn_bytes_from + j) x 0 (λ q. e (omega arith)) ∙ d.bytes j h ∙ sym (else j (bytes_of s) e)

    number' : (j : ℕ) → j < 16 → Dec (j ≡ k) → get_or new (turn_links_from + j) 0 ≡ sum (l + 1) (counted_by (into_from s σ t j) one_by (known s σ))
    number' j h (yes e) =
        let a = k-in in
        rw e (get_or-set_same (set w (turn_bytes_from + k) x) (turn_links_from + k) y 0 (simp length-set (omega arith)) ∙ ey ∙ ap (λ (z : ℕ). z + 1) (d.number k a) ∙ sym (more one_by))
    number' j h (no e) =
        let a = k-in in
        get_or-set_other (set w (turn_bytes_from + k) x) (turn_links_from + k) (turn_links_from + j) y 0 (λ q. e (omega arith)) ∙ get_or-set_other w (turn_bytes_from + k) (turn_links_from + j) x 0 (omega arith) ∙ d.number j h ∙ sym (else j one_by e)

  -- as the code writes it
  pub surveyed-by : (w₂ : List ℕ) {b x y u z : ℕ} → b ≡ bytes_of s l → x ≡ get_or w (turn_bytes_from + k) 0 → y ≡ get_or w (turn_links_from + k) 0 → u ≡ x + b → z ≡ y + 1
      → w₂ ≡ set (set w (turn_bytes_from + k) u) (turn_links_from + k) z → Only turn_bytes_from packed_from w w₂ × SurveyedTo s σ t (l + 1) w₂
  surveyed-by w₂ {b} {x} {y} {u} {z} eb ex ey eu ez e =
      let h = k-in in
      let eu' : u ≡ get_or w (turn_bytes_from + k) 0 + bytes_of s l = eu ∙ ap₂ ◌+◌ ex eb in
      let ez' : z ≡ get_or w (turn_links_from + k) 0 + 1 = ez ∙ ap (λ (p : ℕ). p + 1) ey in (
        subst (Only turn_bytes_from packed_from w) (sym e) (only_set (turn_links_from + k) z (omega arith) (omega arith) (only_set (turn_bytes_from + k) u (omega arith) (omega arith) (only_none turn_bytes_from packed_from w))),
        subst (SurveyedTo s σ t (l + 1)) (sym e) (record { bytes = λ j g. bytes' u z eu' ez' j g (ℕ_discrete j k); number = λ j g. number' u z eu' ez' j g (ℕ_discrete j k) }),
      )

-- between two links into t none is surveyed
survey-skip : (s : Sheet) (σ : Schedule) (t a b : ℕ) (w : List ℕ) → a ≤ b → ((i : ℕ) → a ≤ i → i < b → target_of s i ≢ t) → SurveyedTo s σ t a w → SurveyedTo s σ t b w
unfolding counted_by
survey-skip s σ t a b w h none d = record { bytes = λ k g. d.bytes k g ∙ skip k (bytes_of s); number = λ k g. d.number k g ∙ skip k one_by }
  where
    skip : (k : ℕ) (x : ℕ → ℕ) → sum a (counted_by (into_from s σ t k) x (known s σ)) ≡ sum b (counted_by (into_from s σ t k) x (known s σ))
    skip k x =
        let z : a + (b - a) ≡ b = omega arith in
        sym (sum-skip (counted_by (into_from s σ t k) x (known s σ)) a (b - a) (λ i p q. rw (ne_eqb (target_of s i) t (none i p (omega arith))))) ∙ ap (λ (n : ℕ). sum n (counted_by (into_from s σ t k) x (known s σ))) z

-- the survey, at link l, after i links, with the starts by the links below l
pub record Surveying (s : Sheet) (σ : Schedule) (t i l : ℕ) (kept₀ kept : List ℕ) (starts : Starts) : Type 0 where
  pub only : Only turn_bytes_from packed_from kept₀ kept
  pub walk : Walking s t i l
  pub surveyed : SurveyedTo s σ t l kept
  pub lanes : Lanes (start_to s σ t l) starts

module _ {s : Sheet} {σ : Schedule} {w kept₀ : List ℕ} (chained : Chained Target s w) (gathered : Gathered s kept₀) (t : ℕ) (t-in : t < task_count s) where
  pub survey-begins : {l : ℕ} {r : Starts} → l ≡ head_of Target w t → l ≤ link_count s → SurveyedTo s σ t 0 kept₀ → Ends s σ kept₀ → Lanes (λ k. get_or kept₀ (ends_from + k) 0) r → Surveying s σ t 0 l kept₀ kept₀ r
  survey-begins {l} e h d ends g =
      record {
        only = only_none turn_bytes_from packed_from kept₀;
        walk = walk_begins chained gathered t t-in e h;
        surveyed = survey-skip s σ t 0 l kept₀ (omega arith) (λ j p q. chained.head_none t t-in j (rw e at q)) d;
        lanes = starts_first s σ t chained t-in e h ends g;
      }

  module _ {i l : ℕ} {kept : List ℕ} {r : Starts} (g : Surveying s σ t i l kept₀ kept r) where
    -- there is a link more
    pub there-more : {n : ℕ} → n ≡ get_or kept₀ t 0 → i < n → l < link_count s
    there-more e h = walk-there chained gathered t t-in g.walk e h

    pub there-soon : Ranged s → Early σ → Soon r
    there-soon ranged early = starts-soon s σ t g.walk.here ranged early g.lanes

    pub there-link : ready s σ t ≡ true → l < link_count s → (l < link_count s) × (target_of s l ≡ t) × (placed σ (source_of s l) ≡ true)
    there-link is_ready h = (h, g.walk.own h, ready-source s σ t l is_ready h (g.walk.own h))

    pub survey-more : {l' : ℕ} {kept' : List ℕ} {r' : Starts} → ready s σ t ≡ true → Only turn_bytes_from packed_from kept kept' → l < link_count s → l' ≡ next_of Target w l → l' ≤ link_count s → l < l' → SurveyedTo s σ t (l + 1) kept'
        → Ranged s → Steps (start_beyond s σ l) r r' → Surveying s σ t (i + 1) l' kept₀ kept' r'
    survey-more {l'} {kept'} is_ready o h e few more d ranged step =
        record {
          only = only-trans g.only o;
          walk = walk_more chained gathered t t-in g.walk h e more few;
          surveyed = survey-skip s σ t (l + 1) l' kept' (omega arith) (λ j x y z. chained.next_none l h j (omega arith) (rw e at y) (z ∙ sym (g.walk.own h))) d;
          lanes = starts-next s σ t chained t-in h (g.walk.own h) (ready-source s σ t l is_ready h (g.walk.own h)) (ranged.source l h) e more few step g.lanes;
        }

    pub survey-done : {n : ℕ} → Ranged s → n ≡ get_or kept₀ t 0 → n ≤ i → Only turn_bytes_from packed_from kept₀ kept × Surveyed s σ t kept × Lanes (start_on s σ t) r
    survey-done ranged e h =
        let z = walk-ended chained gathered t t-in g.walk e h in
        (g.only, subst (λ (n : ℕ). SurveyedTo s σ t n kept) z g.surveyed, starts-done s σ t ranged.source z g.lanes)

-- a survey leaves all else as it was
module _ {w kept kept' : List ℕ} (h : Kept w kept) (o : Only turn_bytes_from packed_from kept kept') where
  pub survey-gathered : Gathered (sheet_in w) kept'
  survey-gathered = gathered-frame h.ranged.few_tasks (λ i p q. o.low i (omega arith)) h.caches.gathered

  pub survey-ends : Ends (sheet_in w) (schedule_in w) kept'
  survey-ends = ends-frame (λ i p q. o.low i (omega arith)) h.caches.ends

  pub kept_frame : Kept w kept'
  kept_frame =
      let d = h.caches in
      record {
        long = omega (arith, o.long, h.long);
        loaded = h.loaded;
        ranged = h.ranged;
        single = h.single;
        few_opened = h.few_opened;
        standing = h.standing;
        caches = record {
          outward = d.outward;
          inward = d.inward;
          gathered = survey-gathered;
          counted = counted-frame h.ranged.few_tasks (λ i p q. o.low i (omega arith)) (λ i p q. o.low i q) (λ i p. o.high i (omega arith)) d.counted;
          ends = survey-ends;
          closed = d.closed;
        };
      }
