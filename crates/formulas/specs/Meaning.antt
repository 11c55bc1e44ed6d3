-- What each answer means, by the grammar and the values alone. proofs/Theorems shows that each is given exactly then.
use Rattle.std.specs.Prelude.{ℕ, ◌+◌, ◌≤◌, ◌<◌, ◌≡◌, List, length, take}
use Rattle.std.proofs.Math.Option.{some}
use Rattle.formulas.specs.Grammar.{Reading, Begins}
use Rattle.formulas.specs.Values.{sum_value}

-- "a lent list of other than 26 letter values"
abbrev pub letter_count : ℕ
letter_count = 26

-- "a final value outside 1 to 65,535"
abbrev pub greatest_weight : ℕ
greatest_weight = 65535

-- the weight v: "every accepted text has one reading", and "its value is that reading's"
pub record Accepted (text letters : List ℕ) (v : ℕ) : Type 0 where
  pub reading : Reading text
  pub only : (other : Reading text) → other.formula ≡ reading.formula
  pub its_value : sum_value reading.formula letters ≡ some v
  pub all_letters : length letters ≡ letter_count
  pub low : 1 ≤ v
  pub high : v ≤ greatest_weight

-- 35 at p: "a text outside the grammar or nested too deep, placed at the first byte no allowed text could have there, or at the length if it just stops"
pub record OutsideAt (text : List ℕ) (p : ℕ) : Type 0 where
  pub inside : p ≤ length text
  pub no_reading : Reading text → ⊥
  pub so_far : Begins (take p text)
  pub no_further : p < length text → Begins (take (p + 1) text) → ⊥

-- 36: the text has a reading; but the list has not 26 values, or a number or partial result is too large, or the value is outside 1 to 65,535
pub record Unweighed (text letters : List ℕ) : Type 0 where
  pub reading : Reading text
  pub no_weight : length letters ≡ letter_count → (v : ℕ) → sum_value reading.formula letters ≡ some v → 1 ≤ v → v ≤ greatest_weight → ⊥
