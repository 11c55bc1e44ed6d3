-- What the writers of fields and lines leave.
use Rattle.std.specs.Prelude.{ℕ, ◌/◌, ◌%◌, ◌<◌, ◌≡◌, List, [], ◌∷◌, ◌++◌, get_or}
use Rattle.folds.specs.Folds.{bit, any}
use Rattle.folds.specs.Answers.{value}
use Rattle.sheet.specs.Sheet.{Sheet, task_count}
use Rattle.planner.specs.Schedule.{Schedule, place_of, stands}
use Rattle.planner.specs.Planner.{planned}
use Rattle.listing.specs.Listing.{digit, field, line_end}
use Rattle.listing_writer.specs.declared.rows.Runs.{Runs}

-- the four digits of a number below 10,000, highest first
unfoldable pub four_digits : ℕ → List ℕ
four_digits n = digit (n / 1000) ∷ digit (n / 100 % 10) ∷ digit (n / 10 % 10) ∷ digit (n % 10) ∷ []

-- how each line ends: two fields, and its end
unfoldable pub two_fields : ℕ → ℕ → List ℕ
two_fields a b = field a ++ (field b ++ line_end)

-- 1 for each processor on which one of the tasks below t stands
pub record Marked (σ : Schedule) (t : ℕ) (r : Runs) : Type 0 where
  pub on : (k : ℕ) → k < 16 → get_or r.at k 0 ≡ bit (any t (λ u. stands σ u k))

-- a schedule that has each task on one of 16 processors
pub record Standing (s : Sheet) (σ : Schedule) : Type 0 where
  pub places : (t : ℕ) → t < task_count s → place_of σ t < 16

-- any plan of s has
abbrev pub Stands : Sheet → Type 0
Stands s = (σ : Schedule) → planned s ≡ value σ → Standing s σ
