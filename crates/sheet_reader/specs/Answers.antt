-- The code's answers as the definitions have them.
use Rattle.std.specs.Prelude.{ℕ, ⊤, Result, Ok, Err, ◌+◌, ◌*◌, ◌/◌, ◌%◌, Bool, true, false, ◌≡◌, List, length, eqb, ltb}
use Rattle.folds.specs.Folds.{pick}
use Rattle.folds.specs.Answers.{Answer, value}
use Rattle.commands.specs.Commands.{Outcome, refuse, go}
use Rattle.sheet.specs.Sheet.{Sheet}
use Rattle.sheet.specs.Sizes.{link_size}
use Rattle.sheet.specs.Format.{Kind, board, unpack, wire, task, link, end}
use Rattle.sheet.specs.Tables.{sheet_in, Loaded}
use Rattle.sheet_reader.specs.declared.bytes.Next.{Next}
use Rattle.sheet_reader.specs.declared.bytes.Next.TheVariants.{Unpacking, Cube, Task, Link, End}
use Rattle.refusals.specs.Refusals.{number, refusal, result_of}
use Rattle.refusals.specs.declared.Refusal.{Refusal}
use Rattle.refusals.specs.declared.Fault.{Fault}

-- a command of kind k is refused, or is the next one
abbrev pub outcome : Kind → Result ⊤ Fault → Outcome Kind
outcome k (Ok x) = go k
outcome k (Err f) = refuse (number f)

abbrev pub kind : Next → Kind
kind Unpacking = unpack
kind Cube = wire
kind Task = task
kind Link = link
kind End = end

abbrev pub outcome_of : Result Next Fault → Outcome Kind
outcome_of (Ok n) = go (kind n)
outcome_of (Err f) = refuse (number f)

-- whether an unpacking time comes, a cube, a task, a link
abbrev pub is_unpacking : Outcome Kind → Bool
is_unpacking (refuse r) = false
is_unpacking (go board) = false
is_unpacking (go unpack) = true
is_unpacking (go wire) = false
is_unpacking (go task) = false
is_unpacking (go link) = false
is_unpacking (go end) = false

abbrev pub is_cube : Outcome Kind → Bool
is_cube (refuse r) = false
is_cube (go board) = false
is_cube (go unpack) = false
is_cube (go wire) = true
is_cube (go task) = false
is_cube (go link) = false
is_cube (go end) = false

abbrev pub is_task : Outcome Kind → Bool
is_task (refuse r) = false
is_task (go board) = false
is_task (go unpack) = false
is_task (go wire) = false
is_task (go task) = true
is_task (go link) = false
is_task (go end) = false

abbrev pub is_link : Outcome Kind → Bool
is_link (refuse r) = false
is_link (go board) = false
is_link (go unpack) = false
is_link (go wire) = false
is_link (go task) = false
is_link (go link) = true
is_link (go end) = false

abbrev pub reading_of : Answer Sheet → Result ⊤ Refusal
reading_of a = result_of (λ s. tt) a

-- reading gave the answer a as r, and left a sheet that was read in the tables
pub record ReadIs (a : Answer Sheet) (w last : List ℕ) (r : Result ⊤ Refusal) : Type 0 where
  pub long : length last ≡ length w
  pub answer : r ≡ reading_of a
  pub loaded : (s : Sheet) → a ≡ value s → Loaded last
  pub held : (s : Sheet) → a ≡ value s → sheet_in last ≡ s

-- what the end command at offset e of so many bytes closes
unfoldable pub closed_of : ℕ → ℕ → Result ⊤ Refusal
closed_of long e = pick (ltb (e + 1) long) (Err (refusal 4 (e + 1))) (Ok tt)

-- what stands behind m values of links, whose commands begin at offset e: a link that is cut, or a sheet
unfoldable pub values_closed : ℕ → ℕ → Result ⊤ Refusal
values_closed m e = pick (eqb (m % 4) 0) (Ok tt) (Err (refusal 1 (e + link_size * (m / 4))))
