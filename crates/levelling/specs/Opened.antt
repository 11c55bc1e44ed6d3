-- A sheet opened in the work area: the answer, and where it was read its tables and levels.
use Rattle.std.specs.Prelude.{ℕ, ◌≡◌, List, length}
use Rattle.folds.specs.Answers.{Answer, value}
use Rattle.sheet.specs.Sheet.{Sheet}
use Rattle.sheet.specs.Tables.{sheet_in, Loaded}
use Rattle.sheet_reader.specs.Answers.{reading_of}
use Rattle.std.specs.Prelude.{⊤, Result}
use Rattle.refusals.specs.declared.Refusal.{Refusal}
use Rattle.levelling.specs.Found.{Levelled}

pub record OpenIs (a : Answer Sheet) (w last : List ℕ) (r : Result ⊤ Refusal) : Type 0 where
  pub long : length last ≡ length w
  pub answer : r ≡ reading_of a
  pub loaded : (s : Sheet) → a ≡ value s → Loaded last
  pub held : (s : Sheet) → a ≡ value s → sheet_in last ≡ s
  pub levelled : (s : Sheet) → a ≡ value s → Levelled s last
