-- What copying a bundle's commands as values promises.
use Rattle.std.specs.Prelude.{ℕ, ◌+◌, ◌≤◌, ◌<◌, ◌≡◌, List, ◌++◌, length, get_or, drop, ltb}
use Rattle.folds.specs.Folds.{pick}
use Rattle.folds.specs.Answers.{Answer, value, refused, written}
use Rattle.numbers.specs.Number.{number_at}
use Rattle.sheet.specs.Sheet.{Sheet}
use Rattle.bundle.specs.Bundle.{Bundle}
use Rattle.bundle.specs.Format.{read_bundle}
use Rattle.bundle.specs.Writing.{bundle_values}
use Rattle.bundle.specs.Counts.{Sized}
use Rattle.bundle_writer.specs.Whole.{read_values}
use Rattle.bundle.specs.Kinds.{is_message}
use Rattle.bundle_writer.specs.Writes.{Small}
use Rattle.bundle_writer.specs.declared.values.Copied.{Copied}
use Rattle.std.specs.Prelude.{Result, Ok, Err}
use Rattle.refusals.specs.Refusals.{refusal}
use Rattle.refusals.specs.declared.Refusal.{Refusal}

-- the bytes are a bundle, and its values have room
pub record Copyable (b old : List ℕ) : Type 0 where
  pub sheet : Sheet
  pub small : Small sheet
  pub bundle : Bundle
  pub reads : read_bundle sheet b ≡ value bundle
  pub room : length (bundle_values bundle) ≤ length old

-- the values of the bundle at the front, whatever sheet it was read for; what stood behind them stays
pub record CopyIs (b old last : List ℕ) : Type 0 where
  pub left : (s : Sheet) → Small s → (x : Bundle) → read_bundle s b ≡ value x → last ≡ bundle_values x ++ drop (length (bundle_values x)) old

-- how many values there are and the claim beside them, or the refusal; room for so many is lent
unfoldable pub copied_of : ℕ → Answer Bundle → Result Copied Refusal
copied_of lent (value x) = pick (ltb lent (length (bundle_values x))) (Err (refusal 12 (length (bundle_values x)))) (Ok (record { values = length (bundle_values x); claim = x.claim }))
copied_of lent (refused n at) = Err (refusal n at)

-- bytes b, a sheet of p processors, t tasks and l links, lent values before and after, words before and after
pub record ValuesIs (b : List ℕ) (p t l : ℕ) (old last words after : List ℕ) (r : Result Copied Refusal) : Type 0 where
  pub answer : (s : Sheet) → Sized s p t l → r ≡ copied_of (length old) (read_bundle s b)
  pub left : (s : Sheet) → Sized s p t l → last ≡ written old (read_values s b (length old))
  pub long : length after ≡ length words
  -- words behind the first p + 1 are as they were
  pub rest : (i : ℕ) → p < i → get_or after i 0 ≡ get_or words i 0

-- the operand of the command at an offset
unfoldable pub operand_in : List ℕ → ℕ → ℕ
operand_in b at = pick (is_message (get_or b at 0)) (number_at 2 b (at + 1)) (get_or b (at + 1) 0)
