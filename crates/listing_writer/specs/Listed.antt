-- How listing ends: by the answer that it stands for, a result of a length or 12 with the length needed.
use Rattle.std.specs.Prelude.{ℕ, ◌≤◌, ◌≡◌, List, length}
use Rattle.folds.specs.Answers.{value, and_then, fitting, written}
use Rattle.sheet.specs.Sheet.{Sheet}
use Rattle.planner.specs.Planner.{planned}
use Rattle.listing.specs.Listing.{lines_of, listing}
use Rattle.std.specs.Prelude.{Result}
use Rattle.refusals.specs.Refusals.{written_of}
use Rattle.refusals.specs.declared.Refusal.{Refusal}

-- v written to the front of the output, if it is long enough; no listing is longer than 21,551 bytes
pub record FitIs (v out out' : List ℕ) (r : Result ℕ Refusal) : Type 0 where
  pub answer : r ≡ written_of (fitting (length out) v)
  pub output : out' ≡ written out (fitting (length out) v)
  pub short : length v ≤ 21551

-- the lines of a sheet that was read
unfoldable pub planned_lines : Sheet → List ℕ
planned_lines s = lines_of (and_then (planned s) (λ σ. value (s, σ)))

-- the listing of these bytes
pub record ListIs (sheet work work' out out' : List ℕ) (r : Result ℕ Refusal) : Type 0 where
  pub fit : FitIs (listing sheet) out out' r
  pub long : length work' ≡ length work
