-- The records of the input: the name's length (u8), the name, the sheet's length (u16, lowest byte first), the sheet.
use Rattle.std.specs.Prelude.{ℕ, ◌+◌, List, length, get_or, ltb, Option, None, Some}
use Rattle.folds.specs.Folds.{pick}
use Rattle.numbers.specs.Number.{number_at}

-- where the name of the record at `at` ends
abbrev pub name_end : List ℕ → ℕ → ℕ
name_end b at = at + 1 + get_or b at 0

-- where its sheet ends
abbrev pub sheet_end : List ℕ → ℕ → ℕ
sheet_end b at = name_end b at + 2 + number_at 2 b (name_end b at)

-- the ends of the name and of the sheet of the record at `at`: none where the sheet's length or the sheet is cut
abbrev pub record_at : List ℕ → ℕ → Option (ℕ × ℕ)
record_at b at = pick (ltb (length b) (name_end b at + 2)) None (pick (ltb (length b) (sheet_end b at)) None (Some (name_end b at, sheet_end b at)))
