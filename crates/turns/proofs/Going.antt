-- t goes on k from a to f: of what is kept the ends and stores (own₁) and the links that wait (own₂), then the schedule (w₃), then the links out of t (own₄).
use Prim.Native.Nat.{ℕ, ◌+◌, ◌%◌, ◌≤◌, ◌<◌, max}
use mathlib.Core.Bool.{true}
use mathlib.Core.Path.{◌≡◌, refl, ap, ap₂, sym, ◌∙◌, subst}
use mathlib.Core.List.{List}
use native.Mathlib.Omega.{arith}
use native.Mathlib.Decide.{ℕ_discrete}
use lib.ListN.{length, get_or}
use Rattle.workspace.specs.Area.{placed_at, places_at}
use Rattle.sheet.specs.Sheet.{Sheet, task_count, work_of}
use Rattle.sheet.specs.Tables.{sheet_in, Loaded, Ranged}
use Rattle.sheet.proofs.Rows.{ranged, work_in}
use Rattle.planner.specs.Schedule.{Schedule, place_of, placed, put}
use Rattle.planner.specs.Placing.{ready, end_of, start_on}
use Rattle.planner.proofs.Schedules.{on-other, placed-other}
use Rattle.planner.proofs.Unpacking.{end-le-start}
use Rattle.levelling.specs.Found.{Levelled}
use Rattle.schedule.specs.Layout.{schedule_in, put_words}
use Rattle.schedule.proofs.Rows.{levelled-frame}
use Rattle.schedule.proofs.Puts.{put_low, put-long, put-placed, schedule-put}
use Rattle.adjacency.specs.Chains.{Chained}
use Rattle.adjacency.specs.Frames.{Only}
use Rattle.adjacency.specs.declared.End.TheVariants.{Source, Target}
use Rattle.adjacency.proofs.Frames.{same-sheet, same-loaded}
use Rattle.adjacency.proofs.Walks.{chained-frame}
use Rattle.arrivals.specs.Layout.{ends_from, waiting_from, turn_bytes_from, turn_links_from, packed_from, kept_length}
use Rattle.arrivals.specs.Kept.{known, Single, Gathered, Counted, Surveyed, Ends, Caches}
use Rattle.arrivals.specs.Steps.{up_to, Beside, Placeable, Landed, Released, Enough}
use Rattle.arrivals.proofs.Walks.{counted-frame, gathered-frame, ends-frame}
use Rattle.arrivals.proofs.Placing as placing
use Rattle.arrivals.proofs.Settling.{enough}
use Rattle.arrivals.proofs.Surveys.{surveyed-frame, kept_frame}
use Rattle.arrivals.specs.Lanes.{Early}
use Rattle.readiness.specs.Keyed.{Keyed, KeyedBeside}
use Rattle.readiness.proofs.Renewing.{keyed-beside}
use Rattle.placing.specs.Choosing.{Choosing}
use Rattle.placing.proofs.Starts.{placeable}
use Rattle.turns.specs.Turns.{Timely, Going}
use Rattle.turns.proofs.Bounds.{put-timely, finish-small, early}

-- what is known of the numbers when t is placed at turn j
pub record Putting (w own : List ℕ) (j t k a f p o : ℕ) : Type 0 where
  pub going : Going w j w own
  pub can : Placeable (sheet_in w) (schedule_in w) t k
  pub surveyed : Surveyed (sheet_in w) (schedule_in w) t own
  pub turn : j < 256
  pub late : end_of (sheet_in w) (schedule_in w) k ≤ f
  pub small : f < 2147483648
  pub timely : Timely (sheet_in w) (put (schedule_in w) t k a f)
  pub lasts : f ≡ a + get_or w (16 + t) 0 % 65536
  pub placed_is : p ≡ get_or w placed_at 0
  pub opened_is : o ≡ max (schedule_in w).opened (k + 1)

module _ {w own own₁ : List ℕ} {j t k a f p o : ℕ} (u : Putting w own j t k a f p o) (o₁ : Only ends_from waiting_from own own₁) (ends : Ends (sheet_in w) (put (schedule_in w) t k a f) own₁) where
  abbrev s : Sheet
  s = sheet_in w

  abbrev σ : Schedule
  σ = schedule_in w

  abbrev σ' : Schedule
  σ' = put (schedule_in w) t k a f

  range : Ranged s
  range = u.going.kept.ranged

  pub t-small : t < 256
  t-small = omega (arith, range.few_tasks, u.can.task)

  early' : Early σ'
  early' = early range u.timely

  p-small : p < 256
  p-small = omega (arith, u.placed_is, u.going.placed, u.turn)

  long₁ : length own₁ ≡ kept_length
  long₁ = o₁.long ∙ u.going.kept.long

  pub enough₁ : (kept_length ≤ length own₁) × Enough own₁
  enough₁ =
      let kept = u.going.kept in
      let before = enough s σ own t k a f (omega (arith, kept.long)) u.can u.late kept.caches.gathered kept.caches.counted u.surveyed kept.caches.ends in
      (omega (arith, long₁), record { most = λ i h. omega (arith, before.most i h, o₁.high (waiting_from + i) (omega arith), o₁.high (turn_links_from + i) (omega arith)) })

  module _ {own₂ : List ℕ} (r₂ : Released 16 own₁ own₂) where
    long₂ : length own₂ ≡ kept_length
    long₂ = r₂.long ∙ long₁

    counted₂ : Counted s σ' (up_to s σ' t 0) own₂
    counted₂ =
        placing.counted-begins s σ t k a f u.can own₁ own₂ r₂ (surveyed-frame (λ i h l. o₁.high i (omega arith)) u.surveyed)
        (counted-frame range.few_tasks (λ i h l. o₁.low i l) (λ i h l. o₁.high i h) (λ i h. o₁.high i (omega arith)) u.going.kept.caches.counted)

    gathered₂ : Gathered s own₂
    gathered₂ = gathered-frame range.few_tasks (λ i h l. r₂.low i (omega arith) ∙ o₁.low i (omega arith)) u.going.kept.caches.gathered

    module _ {w₃ : List ℕ} (e₃ : w₃ ≡ put_words w t k f p o) where
      low₃ : (i : ℕ) → i < places_at → get_or w₃ i 0 ≡ get_or w i 0
      low₃ i h = rw e₃ (put_low w t k f p o u.going.kept.loaded.long t-small u.can.on p-small i h)

      long₃ : length w₃ ≡ length w
      long₃ = rw e₃ (put-long w t k f p o u.going.kept.loaded.long t-small u.can.on p-small)

      loaded₃ : Loaded w₃
      loaded₃ = same-loaded w w₃ u.going.kept.loaded low₃ long₃

      sheet₃ : sheet_in w₃ ≡ s
      sheet₃ = same-sheet w w₃ u.going.kept.loaded low₃

      pub schedule₃ : schedule_in w₃ ≡ σ'
      unfolding schedule_in
      schedule₃ = ap schedule_in e₃ ∙ schedule-put w t k f p o u.going.kept.loaded.long t-small u.can.on p-small a u.lasts u.going.kept.loaded.tasks u.placed_is u.opened_is

      placed₃ : get_or w₃ placed_at 0 ≡ p + 1
      placed₃ = rw e₃ (put-placed w t k f p o u.going.kept.loaded.long t-small u.can.on p-small)

      chain₃ : Chained Source s w₃
      chain₃ = chained-frame range.few_tasks range.few_links (λ i h l. low₃ i l) u.going.kept.caches.outward

      inward₃ : Chained Target s w₃
      inward₃ = chained-frame range.few_tasks range.few_links (λ i h l. low₃ i l) u.going.kept.caches.inward

      levelled₃ : Levelled s w₃
      levelled₃ = levelled-frame range.few_tasks range.few_links low₃ u.going.levelled

      -- what the walk over the links out of t starts from
      pub walks₃ : {q : List ℕ} → Keyed s σ q → (Loaded w₃ × (kept_length ≤ length own₂)) × ((Chained Source (sheet_in w₃) w₃ × Chained Target (sheet_in w₃) w₃) × (((k < 16) × (f < 2147483648) × (t < task_count (sheet_in w₃))) × ((Single (sheet_in w₃) × Landed (sheet_in w₃) (schedule_in w₃) t k f)
          × ((Gathered (sheet_in w₃) own₂ × Counted (sheet_in w₃) (schedule_in w₃) (up_to (sheet_in w₃) (schedule_in w₃) t 0) own₂) × ((Levelled (sheet_in w₃) w₃ × Early (schedule_in w₃)) × KeyedBeside (sheet_in w₃) (schedule_in w₃) t q)))))
      walks₃ keyed = (
        (loaded₃, omega (arith, long₂)),
        rw (sheet₃, schedule₃) (
          (chain₃, inward₃),
          (
            (u.can.on, u.small, u.can.task),
            (
              (u.going.kept.single, placing.landed s σ t k a f u.can),
              ((gathered₂, counted₂), ((levelled₃, early'), keyed-beside s σ t k a f u.can keyed)),
            ),
          ),
        ),
      )

      module _ {own₄ : List ℕ} (b₄ : Beside own₂ own₄) (counted : Counted (sheet_in w₃) (schedule_in w₃) (known (sheet_in w₃) (schedule_in w₃)) own₄) where
        caches₄ : Caches s σ' w₃ own₄
        caches₄ =
            record {
              outward = chain₃;
              inward = inward₃;
              gathered = gathered-frame range.few_tasks (λ i h l. b₄.low i l) gathered₂;
              counted = subst (λ (τ : Schedule). Counted s τ (known s τ) own₄) schedule₃ (subst (λ (x : Sheet). Counted x (schedule_in w₃) (known x (schedule_in w₃)) own₄) sheet₃ counted);
              ends = ends-frame (λ i h l. b₄.mid i h l ∙ r₂.low i l) ends;
              closed = placing.closed-put s σ t k a f u.can;
            }

        standing₄ : (v : ℕ) → placed σ' v ≡ true → place_of σ' v < σ'.opened
        standing₄ v e = go (ℕ_discrete v t)
          where
            go : Dec (v ≡ t) → place_of σ' v < σ'.opened
            go (yes d) = omega (arith, ap (place_of σ') d, placing.place_same s σ t k a f u.can)
            go (no d) = omega (arith, on-other σ t k a f v d, u.going.kept.standing v (sym (placed-other σ t k a f v d) ∙ e))

        pub going₄ : Going w (j + 1) w₃ own₄
        going₄ =
            record {
              long = long₃;
              low = low₃;
              sheet = sheet₃;
              kept =
                  record {
                    long = b₄.long ∙ long₂;
                    loaded = loaded₃;
                    ranged = ranged w₃ loaded₃;
                    single = subst Single (sym sheet₃) u.going.kept.single;
                    few_opened = rw schedule₃ (omega (arith, u.going.kept.few_opened, u.can.on));
                    standing = rw schedule₃ standing₄;
                    caches = subst (λ (x : Sheet). Caches x (schedule_in w₃) w₃ own₄) (sym sheet₃) (subst (λ (τ : Schedule). Caches s τ w₃ own₄) (sym schedule₃) caches₄);
                  };
              levelled = subst (λ (x : Sheet). Levelled x w₃) (sym sheet₃) levelled₃;
              timely = subst (λ (x : Sheet). Timely x (schedule_in w₃)) (sym sheet₃) (subst (Timely s) (sym schedule₃) u.timely);
              placed = omega (arith, placed₃, u.placed_is, u.going.placed);
            }

-- the task is chosen for
pub choosing : {w own : List ℕ} {j t : ℕ} → Going w j w own → j < 256 → t < task_count (sheet_in w) → ready (sheet_in w) (schedule_in w) t ≡ true → Surveyed (sheet_in w) (schedule_in w) t own → Choosing w own t
choosing g turn h r v = record { kept = g.kept; levelled = g.levelled; task = h; is_ready = r; surveyed = v; early = early g.kept.ranged g.timely }

-- the numbers as the code finds them
pub putting : {w own : List ℕ} {j t k a y p x o : ℕ} → Going w j w own → j < 256 → t < task_count (sheet_in w) → k < 16 → ready (sheet_in w) (schedule_in w) t ≡ true → Surveyed (sheet_in w) (schedule_in w) t own
    → a ≡ start_on (sheet_in w) (schedule_in w) t k → y ≡ work_of (sheet_in w) t → p ≡ get_or w placed_at 0 → x ≡ (schedule_in w).opened → o ≡ max x (k + 1) → Putting w own j t k a (a + y) p o
putting {w} {own} {j} {t} {k} {a} g turn h on r v ea ey ep ex eo =
    record {
      going = g;
      can = placeable w own t k (choosing g turn h r v) on;
      surveyed = v;
      turn = turn;
      late = omega (arith, end-le-start (sheet_in w) (schedule_in w) t k);
      small = omega (arith, finish-small g.kept.ranged g.timely t k on ea ey h);
      timely = put-timely (sheet_in w) (schedule_in w) t k a _ (placeable w own t k (choosing g turn h r v) on) (ap₂ ◌+◌ ea ey) g.timely;
      lasts = ap (λ (z : ℕ). a + z) (ey ∙ work_in w t h);
      placed_is = ep;
      opened_is = eo ∙ ap (λ (z : ℕ). max z (k + 1)) ex;
    }

-- fewer turns leave no later times
pub later-turns : {w₀ w own : List ℕ} {j i : ℕ} → j ≤ i → Going w₀ j w own → Going w₀ i w own
later-turns h g =
    record {
      long = g.long;
      low = g.low;
      sheet = g.sheet;
      kept = g.kept;
      levelled = g.levelled;
      timely = g.timely;
      placed = omega (arith, g.placed);
    }

pub from-here : {w₀ w own : List ℕ} {j : ℕ} → Going w₀ j w own → Going w j w own
from-here g = record { long = refl; low = λ i h. refl; sheet = refl; kept = g.kept; levelled = g.levelled; timely = g.timely; placed = g.placed }

pub after : {w₀ w w' own own' : List ℕ} {j i : ℕ} → Going w₀ j w own → Going w i w' own' → Going w₀ i w' own'
after g h =
    record {
      long = h.long ∙ g.long;
      low = λ i l. h.low i l ∙ g.low i l;
      sheet = h.sheet ∙ g.sheet;
      kept = h.kept;
      levelled = h.levelled;
      timely = h.timely;
      placed = h.placed;
    }

-- the task of this turn is surveyed
pub surveyed-going : {w₀ w own own' : List ℕ} {j : ℕ} → Going w₀ j w own → Only turn_bytes_from packed_from own own' → Going w₀ j w own'
surveyed-going g o =
    record {
      long = g.long;
      low = g.low;
      sheet = g.sheet;
      kept = kept_frame g.kept o;
      levelled = g.levelled;
      timely = g.timely;
      placed = g.placed;
    }
