-- What writing a bundle from its values promises, and what its parts give.
use Rattle.std.specs.Prelude.{ℕ, ◌+◌, ◌%◌, ◌≤◌, ◌<◌, ◌≡◌, not, List, [], ◌∷◌, length, eqb, leb}
use Rattle.std.proofs.Math.Option.{Option, none, some}
use Rattle.folds.specs.Folds.{pick, both, either}
use Rattle.folds.specs.Answers.{Answer, value, written}
use Rattle.numbers.specs.Number.{number_bytes, stored}
use Rattle.sheet.specs.Sheet.{Sheet, task_count, link_count}
use Rattle.bundle.specs.Bundle.{Bundle}
use Rattle.bundle.specs.Format.{Kind, kind_of, inside, read_bundle}
use Rattle.bundle.specs.Writing.{value_bytes}
use Rattle.bundle.specs.Counts.{Sized}
use Rattle.bundle_writer.specs.Whole.{write_values}
use Rattle.bundle.specs.Kinds.{is_message}
use Rattle.std.specs.Prelude.{Result}
use Rattle.refusals.specs.Refusals.{result_of}
pub use Rattle.refusals.specs.Refusals.{written_of}
use Rattle.refusals.specs.declared.Refusal.{Refusal}

-- what the reader says of the bytes b: their length, or the refusal
abbrev pub judged_of : List ℕ → Answer Bundle → Result ℕ Refusal
judged_of b a = result_of (λ x. length b) a

-- values vs, a sheet of p processors, t tasks and l links: the answer does not depend on the claim
pub record RefusalIs (vs : List ℕ) (p t l : ℕ) (r : Result ℕ Refusal) : Type 0 where
  pub answer : (s : Sheet) → Sized s p t l → (claim : ℕ) → claim < 4294967296 → r ≡ judged_of (value_bytes vs claim) (read_bundle s (value_bytes vs claim))

-- values vs and a claim, a sheet of p processors, t tasks and l links, lent bytes before and after
pub record WriteIs (vs : List ℕ) (claim p t l : ℕ) (old last : List ℕ) (r : Result ℕ Refusal) : Type 0 where
  pub answer : (s : Sheet) → Sized s p t l → r ≡ written_of (write_values s vs claim (length old))
  pub left : (s : Sheet) → Sized s p t l → last ≡ written old (write_values s vs claim (length old))

-- a command of a programme: 23 before the first 50, 25 for a number that is not below m
abbrev pub known_fault : ℕ → ℕ → ℕ → Option ℕ
known_fault m n x = pick (eqb n 0) (some 23) (pick (leb m x) (some 25) none)

-- a 50: 23 for a number that is not n, or not below m
abbrev pub open_fault : ℕ → ℕ → ℕ → Option ℕ
open_fault m n x = pick (either (not (eqb x n)) (leb m x)) (some 23) none

-- the number that refuses a command byte at the end of the bytes, for a sheet with t tasks
abbrev pub cut_kind : ℕ → ℕ → Option Kind → ℕ
cut_kind t n none = 22
cut_kind t n (some k) = pick (both (inside t k) (eqb n 0)) 23 21

unfoldable pub cut_number : ℕ → ℕ → ℕ → ℕ
cut_number t n c = cut_kind t n (kind_of c)

-- a sheet whose numbers have the operands' bytes
pub record Small (s : Sheet) : Type 0 where
  pub processors : s.processors ≤ 256
  pub tasks : task_count s ≤ 256
  pub links : link_count s ≤ 65536

-- such counts
pub record Counted (p t l : ℕ) : Type 0 where
  pub processors : p ≤ 256
  pub tasks : t ≤ 256
  pub links : l ≤ 65536

-- the values are read back as a bundle, and their bytes have room
pub record Writable (vs : List ℕ) (claim : ℕ) (old : List ℕ) : Type 0 where
  pub sheet : Sheet
  pub small : Small sheet
  pub bundle : Bundle
  pub reads : read_bundle sheet (value_bytes vs claim) ≡ value bundle
  pub room : length (value_bytes vs claim) ≤ length old

-- the bytes that are put for a command
unfoldable pub put_bytes : ℕ → ℕ → List ℕ
put_bytes c x = c % 256 ∷ pick (is_message c) (number_bytes 2 x) (x % 256 ∷ [])

pub record PutIs (old last : List ℕ) (at c x r : ℕ) : Type 0 where
  pub left : last ≡ stored old at (put_bytes c x)
  pub next : r ≡ at + length (put_bytes c x)
