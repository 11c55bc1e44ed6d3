-- What holds where a processor is chosen for t.
use Rattle.std.specs.Prelude.{ℕ, zero, suc, ◌+◌, ◌*◌, ◌≤◌, ◌<◌, true, ◌≡◌, List, eqb}
use Rattle.folds.specs.Folds.{pick, sum}
use Rattle.sheet.specs.Sheet.{Sheet, task_count, link_count, source_of, target_of}
use Rattle.sheet.specs.Tables.{sheet_in}
use Rattle.planner.specs.Schedule.{Schedule}
use Rattle.planner.specs.Placing.{ready}
use Rattle.levelling.specs.Found.{Levelled}
use Rattle.schedule.specs.Layout.{schedule_in}
use Rattle.placing.specs.declared.Counts.{Counts}
use Rattle.placing.specs.declared.Senders.{Senders}
use Rattle.placing.specs.declared.Senders.TheVariants.{One, All, Four}
use Rattle.arrivals.specs.Lanes.{Early}
use Rattle.arrivals.specs.Kept.{counted_by, into, into_from, one_by, known, four_of, Surveyed, Kept}

pub record Choosing (w own : List ℕ) (t : ℕ) : Type 0 where
  pub kept : Kept w own
  pub levelled : Levelled (sheet_in w) w
  pub task : t < task_count (sheet_in w)
  pub is_ready : ready (sheet_in w) (schedule_in w) t ≡ true
  pub surveyed : Surveyed (sheet_in w) (schedule_in w) t own
  pub early : Early (schedule_in w)

-- the known links into v from one processor, from all, or from four of them, a byte for each
unfoldable pub known_into : Sheet → Schedule → ℕ → Senders → ℕ
known_into s σ v (One k) = sum (link_count s) (counted_by (into_from s σ v k) one_by (known s σ))
known_into s σ v All = sum (link_count s) (counted_by (into s v) one_by (known s σ))
known_into s σ v (Four j) = four_of (λ i. sum (link_count s) (counted_by (into_from s σ v (4 * j + i)) one_by (known s σ)))

-- what link i counts, if it leads from t: the known links into its target
unfoldable pub due_by : Sheet → Schedule → ℕ → Senders → ℕ → ℕ
due_by s σ t from i = pick (eqb (source_of s i) t) (known_into s σ (target_of s i) from) 0

-- there are such processors
abbrev pub OnBoard : Senders → Type 0
OnBoard (One k) = k < 16
OnBoard All = Unit {0}
OnBoard (Four j) = j < 4

-- the number with the counts of processors 4 j to 4 j + 3
abbrev pub four_in : Counts → ℕ → ℕ
four_in x zero = x.a
four_in x (suc zero) = x.b
four_in x (suc (suc zero)) = x.c
four_in x (suc (suc (suc j))) = x.d

-- numbers that one more word can be added to
pub record Small (x : Counts) : Type 0 where
  pub most : (j : ℕ) → four_in x j ≤ 4398046511104

-- the known links into v besides
pub record MoreDue (s : Sheet) (σ : Schedule) (v : ℕ) (x y : Counts) : Type 0 where
  pub each : (j : ℕ) → j < 4 → four_in y j ≡ four_in x j + known_into s σ v (Four j)
  pub few : (j : ℕ) → four_in y j ≤ four_in x j + 4294967295

-- what is due by the links from t below l
pub record DuesTo (s : Sheet) (σ : Schedule) (t l : ℕ) (x : Counts) : Type 0 where
  pub each : (j : ℕ) → j < 4 → four_in x j ≡ sum l (due_by s σ t (Four j))
  pub few : (j : ℕ) → four_in x j ≤ 4294967295 * l

-- .. by all of them, d from all processors
pub record Dues (s : Sheet) (σ : Schedule) (t d : ℕ) (x : Counts) : Type 0 where
  pub all : d ≡ sum (link_count s) (due_by s σ t All)
  pub four : DuesTo s σ t (link_count s) x
