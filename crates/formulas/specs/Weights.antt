-- The weight that a text gives with the letters' values, or 35 or 36.
use Rattle.std.specs.Prelude.{ℕ, ◌-◌, List, length, eqb}
use Rattle.std.proofs.Math.Option.{Option, none, some}
use Rattle.folds.specs.Folds.{pick}
use Rattle.folds.specs.Answers.{Answer, value, refused}
use Rattle.formulas.specs.Grammar.{within}
use Rattle.formulas.specs.Values.{sum_value}
use Rattle.formulas.specs.Scanning.{Outcome, reads, stops, read_text}
use Rattle.formulas.specs.Meaning.{letter_count, greatest_weight}

-- "36 for a value or the list, place 0"
abbrev pub as_weight : Option ℕ → Answer ℕ
as_weight none = refused 36 0
as_weight (some v) = pick (within 1 greatest_weight v) (value v) (refused 36 0)

-- "35 for a text outside the grammar or nested too deep ..; after it 36": of a text of n bytes
abbrev pub judged : Outcome → ℕ → List ℕ → Answer ℕ
judged (stops rest) n letters = refused 35 (n - length rest)
judged (reads s) n letters = pick (eqb (length letters) letter_count) (as_weight (sum_value s letters)) (refused 36 0)

unfoldable pub weight_of : List ℕ → List ℕ → Answer ℕ
weight_of text letters = judged (read_text text) (length text) letters
