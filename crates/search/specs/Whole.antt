-- The whole search: what is kept at its end, and what is written.
use Rattle.std.specs.Prelude.{ℕ, ◌≡◌, List, length}
use Rattle.folds.specs.Answers.{and_then, fitting, written}
use Rattle.sheet.specs.Sheet.{Sheet}
use Rattle.admission.specs.declared.view.View.{View}
use Rattle.refusals.specs.Refusals.{written_of}
use Rattle.std.specs.Prelude.{Result}
use Rattle.std.specs.Prelude.{Option as Maybe}
use Rattle.refusals.specs.declared.Refusal.{Refusal}
use Rattle.least.specs.Least.{best, best_or11, least_bundle}
use Rattle.search.specs.Judging.{Sought}
use Rattle.search.specs.Keeping.{KeepsOf, Right}
use Rattle.search.specs.declared.choosing.Best.{Best}

-- the best of all candidates is kept
pub record BestIs (sheet : List ℕ) (v : View) (r : Maybe Best) : Type 0 where
  pub right : Right v r
  pub is : (s : Sheet) → Sought s sheet v → KeepsOf s v r (best s)

-- .. and written: 11, or 12, or its bytes
pub record SearchIs (sheet : List ℕ) (v : View) (old last : List ℕ) (r : Result ℕ Refusal) : Type 0 where
  pub answer : (s : Sheet) → Sought s sheet v → r ≡ written_of (and_then (best_or11 s (best s)) (fitting (length old)))
  pub left : (s : Sheet) → Sought s sheet v → last ≡ written old (and_then (best_or11 s (best s)) (fitting (length old)))

-- of the bytes of a sheet
pub record LeastIs (sheet work work' old last : List ℕ) (r : Result ℕ Refusal) : Type 0 where
  pub answer : r ≡ written_of (and_then (least_bundle sheet) (fitting (length old)))
  pub left : last ≡ written old (and_then (least_bundle sheet) (fitting (length old)))
  pub long : length work' ≡ length work
