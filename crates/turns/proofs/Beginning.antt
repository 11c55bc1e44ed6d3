-- Before the first turn: the schedule emptied (w₁), the links out of each task chained (w₂), links gathered in own words.
use Prim.Native.Nat.{ℕ, ◌+◌, ◌≤◌, ◌<◌}
use mathlib.Core.Path.{◌≡◌, refl, ap, ap₂, sym, ◌∙◌, subst}
use mathlib.Core.Bool.{true}
use mathlib.Core.List.{List}
use native.Mathlib.Omega.{arith}
use lib.ListN.{length, get_or, replicate, length-replicate}
use Rattle.workspace.specs.Area.{heads_at, levels_at, placed_at, places_at}
use Rattle.folds.specs.Answers.{Answer}
use Rattle.folds.proofs.Lists.{get_d_replicate}
use Rattle.sheet.specs.Sheet.{Sheet, task_count, link_count}
use Rattle.sheet.specs.Tables.{sheet_in, Loaded}
use Rattle.sheet.proofs.Rows.{ranged}
use Rattle.planner.specs.Schedule.{Schedule, nowhere, empty, place_of, placed}
use borrow.Author.Tests.{ltb-true}
use Rattle.planner.specs.Placing.{barred}
use Rattle.planner.specs.Planner.{turns, planned_by, planned}
use Rattle.levelling.specs.Found.{Levelled}
use Rattle.schedule.specs.Layout.{schedule_in}
use Rattle.schedule.proofs.Rows.{schedule-frame, order_long}
use Rattle.adjacency.specs.Chains.{Rechained, Chained}
use Rattle.adjacency.specs.Frames.{Only}
use Rattle.adjacency.specs.declared.End.TheVariants.{Source, Target}
use Rattle.adjacency.proofs.Frames.{same-sheet, same-loaded, only-sheet, only-loaded}
use Rattle.adjacency.proofs.Walks.{chained-frame, chained-under}
use Rattle.arrivals.specs.Layout.{seen_from, kept_length}
use Rattle.arrivals.specs.Kept.{Single, Caches}
use Rattle.arrivals.specs.Steps.{Zero, GatheredTo}
use Rattle.arrivals.proofs.Gathering.{gather_none, gathered-all}
use Rattle.arrivals.proofs.Beginning.{counted-zero, ends-zero, closed-zero}
use Rattle.turns.specs.Turns.{Timely, Going, Emptied, Afterwards}
use Rattle.turns.proofs.Bounds.{empty-timely, early}

module _ {w w₁ : List ℕ} (loaded : Loaded w) (levelled : Levelled (sheet_in w) w) (single : Single (sheet_in w)) (e₁ : Emptied w w₁) where
  abbrev s : Sheet
  s = sheet_in w

  low₁ : (i : ℕ) → i < places_at → get_or w₁ i 0 ≡ get_or w i 0
  low₁ i h = e₁.only.low i h

  pub loaded₁ : Loaded w₁
  loaded₁ = same-loaded w w₁ loaded low₁ e₁.only.long

  sheet₁ : sheet_in w₁ ≡ s
  sheet₁ = same-sheet w w₁ loaded low₁

  module _ {w₂ : List ℕ} (r₂ : Rechained Source w₁ w₂) (outward : Chained Source (sheet_in w₁) w₂) where
    low₂ : (i : ℕ) → i < heads_at → get_or w₂ i 0 ≡ get_or w i 0
    low₂ i h = r₂.only.low i h ∙ low₁ i (omega arith)

    long₂ : length w₂ ≡ length w
    long₂ = r₂.only.long ∙ e₁.only.long

    pub loaded₂ : Loaded w₂
    loaded₂ = only-loaded (omega arith) loaded₁ r₂.only

    sheet₂ : sheet_in w₂ ≡ s
    sheet₂ = only-sheet (omega arith) loaded₁ r₂.only ∙ sheet₁

    -- the words of the schedule are those of w₁
    schedule₂ : schedule_in w₂ ≡ empty s
    schedule₂ = schedule-frame w₁ w₂ loaded₁.tasks (omega (arith, e₁.placed)) (λ i h. r₂.only.low i (omega arith)) (λ i h l. r₂.only.high i h) ∙ e₁.schedule

    empty₂ : (u : ℕ) → place_of (schedule_in w₂) u ≡ 16
    unfolding place_of
    empty₂ u = ap (λ (σ : Schedule). get_or σ.on u nowhere) schedule₂ ∙ get_d_replicate (task_count s) u nowhere

    standing₂ : (u : ℕ) → placed (schedule_in w₂) u ≡ true → place_of (schedule_in w₂) u < (schedule_in w₂).opened
    unfolding placed
    standing₂ u e = absurd (omega (arith, empty₂ u, ltb-true (place_of (schedule_in w₂) u) 16 e))

    inward₂ : Chained Target s w₂
    inward₂ =
        let r = ranged w loaded in
        chained-under r₂ (chained-frame r.few_tasks r.few_links (λ i h l. low₁ i l) levelled.inward)

    -- in own words of 0 links are gathered (own), and all else stays 0
    module _ {zeros : List ℕ} (z : zeros ≡ replicate kept_length 0) where
      zero : (i : ℕ) → get_or zeros i 0 ≡ 0
      zero i = ap (λ (x : List ℕ). get_or x i 0) z ∙ get_d_replicate kept_length i 0

      long-zeros : length zeros ≡ kept_length
      long-zeros = ap length z ∙ length-replicate {A = ℕ} kept_length 0

      pub gathers : (Loaded w₂ × (kept_length ≤ length zeros)) × GatheredTo (sheet_in w₂) 0 zeros
      gathers = ((loaded₂, omega (arith, long-zeros)), gather_none (record { at = λ i h l. zero i }) (ranged w₂ loaded₂).few_tasks)

      module _ {own : List ℕ} (o : Only 0 seen_from zeros own) (gathered : GatheredTo (sheet_in w₂) (link_count (sheet_in w₂)) own) where
        zeros-on : Zero seen_from kept_length own
        zeros-on = record { at = λ i h l. o.high i h ∙ zero i }

        caches₂ : Caches s (schedule_in w₂) w₂ own
        caches₂ =
            let few = (ranged w loaded).few_tasks in
            record {
              outward = subst (λ (x : Sheet). Chained Source x w₂) sheet₁ outward;
              inward = inward₂;
              gathered = gathered-all (subst (λ (x : Sheet). GatheredTo x (link_count x) own) sheet₂ gathered);
              counted = counted-zero s (schedule_in w₂) empty₂ own few zeros-on;
              ends = ends-zero s (schedule_in w₂) empty₂ own few zeros-on;
              closed = closed-zero s (schedule_in w₂) empty₂;
            }

        pub going-first : Going w₂ 0 w₂ own
        going-first =
            record {
              long = refl;
              low = λ i h. refl;
              sheet = refl;
              kept =
                  record {
                    long = o.long ∙ long-zeros;
                    loaded = loaded₂;
                    ranged = ranged w₂ loaded₂;
                    single = subst Single (sym sheet₂) single;
                    few_opened = rw schedule₂ (omega arith);
                    standing = standing₂;
                    caches = subst (λ (x : Sheet). Caches x (schedule_in w₂) w₂ own) (sym sheet₂) caches₂;
                  };
              levelled = subst (λ (x : Sheet). Levelled x w₂) (sym sheet₂) (record { inward = inward₂; levels = λ t h. low₂ (levels_at + t) (omega (arith, (ranged w loaded).few_tasks)) ∙ levelled.levels t h });
              timely = subst (λ (x : Sheet). Timely x (schedule_in w₂)) (sym sheet₂) (subst (Timely s) (sym schedule₂) (empty-timely s));
              placed = omega (arith, r₂.only.high placed_at (omega arith), e₁.placed);
            }

    planned-by : {a : Answer Schedule} → a ≡ turns (sheet_in w₂) (barred (sheet_in w₂)) true (task_count (sheet_in w₂)) (schedule_in w₂) → a ≡ planned s
    unfolding planned planned_by
    planned-by e = e ∙ ap₂ (λ (x : Sheet) (σ : Schedule). turns x (barred x) true (task_count x) σ) sheet₂ schedule₂

    -- and after the last
    module _ {w₃ own : List ℕ} {j : ℕ} (g : Going w₂ j w₃ own) (few : j ≤ 256) where
      afterwards : Afterwards w w₃
      afterwards =
          let sheet : sheet_in w₃ ≡ s = g.sheet ∙ sheet₂ in
          record {
            long = g.long ∙ long₂;
            low = λ i h. g.low i (omega arith) ∙ low₂ i h;
            loaded = g.kept.loaded;
            sheet = sheet;
            outward = subst (λ (x : Sheet). Chained Source x w₃) sheet g.kept.caches.outward;
            inward = subst (λ (x : Sheet). Chained Target x w₃) sheet g.kept.caches.inward;
            few_opened = g.kept.few_opened;
            few_placed = omega (arith, order_long w₃, g.placed);
            early = (early g.kept.ranged g.timely).early;
          }

      pub scheduled : {a : Answer Schedule} → a ≡ turns (sheet_in w₂) (barred (sheet_in w₂)) true (task_count (sheet_in w₂)) (schedule_in w₂) → (a ≡ planned s) × Afterwards w w₃
      scheduled e = (planned-by e, afterwards)
