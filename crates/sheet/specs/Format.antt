-- The bytes of a sheet: its commands, what refuses each of them (1 to 8), and what the end command closes (4).
use Rattle.std.specs.Prelude.{ℕ, ◌+◌, Bool, true, false, not, List, [], ◌∷◌, ◌++◌, length, get_or, ltb, leb, eqb}
use Rattle.std.proofs.Math.Option.{Option, none, some}
use Rattle.folds.specs.Folds.{pick, both, either, any, first_of}
use Rattle.folds.specs.Answers.{Answer, value, refused}
use Rattle.numbers.specs.Number.{number_at}
use Rattle.commands.specs.Commands.{Format, read_all}
use Rattle.sheet.specs.Sheet.{Sheet, Task, Link, no_sheet, task_count, link_count, source_of, target_of}

-- "one 4D (processors u8; store limit M u32)"; C-14 of document 02: "a new sheet command 55 with a u16 may stand directly after 4D"; C-20: "a sheet command 48, without operands, directly after 4D or the 55 if there is one"; "then tasks 54 (work u16; store u16); then links 45 (from u8, to u8, cost u16, bytes u16); then 51, the end"
pub data Kind : Type 0 where
  board unpack wire task link end : Kind

abbrev pub kind_of : ℕ → Option Kind
kind_of c =
    pick (eqb c 0x4D) (some board)
    (pick (eqb c 0x55) (some unpack)
    (pick (eqb c 0x48) (some wire) (pick (eqb c 0x54) (some task) (pick (eqb c 0x45) (some link) (pick (eqb c 0x51) (some end) none)))))

abbrev pub width : Kind → ℕ
width board = 5
width unpack = 2
width wire = 0
width task = 4
width link = 6
width end = 0

-- a task and a link by their operand bytes
abbrev pub task_from : List ℕ → Task
task_from b = record { work = number_at 2 b 0; store = number_at 2 b 2 }

abbrev pub link_from : List ℕ → Link
link_from b = record { source = get_or b 0 0; target = get_or b 1 0; cost = number_at 2 b 2; bytes = number_at 2 b 4 }

-- how far a sheet has been read: whether its board command was seen, and the sheet so far
pub record Progress : Type 0 where
  pub begun : Bool
  pub sheet : Sheet

abbrev pub fresh : Progress
fresh = record { begun = false; sheet = no_sheet }

-- neither 48 nor a task nor a link stands behind the board command, and nothing at all does
abbrev pub unwired : Sheet → Bool
unwired s = both (not s.cube) (both (eqb (task_count s) 0) (eqb (link_count s) 0))

abbrev pub bare : Sheet → Bool
bare s = both (eqb s.unpacking 0) (unwired s)

-- 3: the order of kinds; of 55 "a wrong position gives 3", and of 48 "elsewhere it gives 3"
abbrev pub in_turn : Progress → Kind → Bool
in_turn p board = not p.begun
in_turn p unpack = both p.begun (bare p.sheet)
in_turn p wire = both p.begun (unwired p.sheet)
in_turn p task = both p.begun (eqb (link_count p.sheet) 0)
in_turn p link = p.begun
in_turn p end = p.begun

-- 5: the 257th task, the 1,025th link
abbrev pub full : Sheet → Kind → Bool
full s board = false
full s unpack = false
full s wire = false
full s task = leb 256 (task_count s)
full s link = leb 1024 (link_count s)
full s end = false

-- 6: processors 1 to 16, work 1 to 65,535; of 55 "a value of 0 gives 6"
abbrev pub out_of_range : Kind → List ℕ → Bool
out_of_range board b = not (both (leb 1 (get_or b 0 0)) (leb (get_or b 0 0) 16))
out_of_range unpack b = eqb (number_at 2 b 0) 0
out_of_range wire b = false
out_of_range task b = eqb (task_from b).work 0
out_of_range link b = false
out_of_range end b = false

-- 7: an undeclared task
abbrev pub loose : Sheet → Kind → List ℕ → Bool
loose s board b = false
loose s unpack b = false
loose s wire b = false
loose s task b = false
loose s link b = either (leb (task_count s) (link_from b).source) (leb (task_count s) (link_from b).target)
loose s end b = false

unfoldable pub joins_by : Sheet → ℕ → ℕ → ℕ → Bool
joins_by s a b l = both (eqb (source_of s l) a) (eqb (target_of s l) b)

-- some link goes from a to b
unfoldable pub joins : Sheet → ℕ → ℕ → Bool
joins s a b = any (link_count s) (joins_by s a b)

-- 8: the same from and to again
abbrev pub doubled : Sheet → Kind → List ℕ → Bool
doubled s board b = false
doubled s unpack b = false
doubled s wire b = false
doubled s task b = false
doubled s link b = joins s (link_from b).source (link_from b).target
doubled s end b = false

-- "in one command 2, 3, 1, 5, 6, 7, 8": 2 is what is no command byte at all
unfoldable pub fault : Progress → Kind → List ℕ → Option ℕ
fault p k b =
    first_of
    ((not (in_turn p k), 3) ∷
    (ltb (length b) (width k), 1) ∷
    (full p.sheet k, 5) ∷ (out_of_range k b, 6) ∷ (loose p.sheet k b, 7) ∷ (doubled p.sheet k b, 8) ∷ [])

-- the sheet with one command more
abbrev pub with_command : Sheet → Kind → List ℕ → Sheet
with_command s board b = record { processors = get_or b 0 0; limit = number_at 4 b 1; unpacking = 0; cube = false; tasks = []; links = [] }
with_command s unpack b = record { processors = s.processors; limit = s.limit; unpacking = number_at 2 b 0; cube = s.cube; tasks = s.tasks; links = s.links }
with_command s wire b = record { processors = s.processors; limit = s.limit; unpacking = s.unpacking; cube = true; tasks = s.tasks; links = s.links }
with_command s task b = record { processors = s.processors; limit = s.limit; unpacking = s.unpacking; cube = s.cube; tasks = s.tasks ++ task_from b ∷ []; links = s.links }
with_command s link b = record { processors = s.processors; limit = s.limit; unpacking = s.unpacking; cube = s.cube; tasks = s.tasks; links = s.links ++ link_from b ∷ [] }
with_command s end b = s

abbrev pub after : Progress → Kind → List ℕ → Progress
after p k b = record { begun = true; sheet = with_command p.sheet k b }

abbrev pub closes : Kind → Bool
closes board = false
closes unpack = false
closes wire = false
closes task = false
closes link = false
closes end = true

-- behind the end command at offset e: 4 if a byte follows, or the sheet, which may have no task
unfoldable pub ended : Progress → ℕ → List ℕ → Answer Sheet
ended p e b = pick (ltb 0 (length b)) (refused 4 (e + 1)) (value p.sheet)

abbrev pub sheet_format : Format Progress Kind Sheet
sheet_format =
    record { cut = 1; strange = 2; kind_of = kind_of; width = width; fault = fault; after = after; closes = closes; ended = ended }

-- the form of a sheet: 1 to 8, or the sheet
unfoldable pub read_form : List ℕ → Answer Sheet
read_form b = read_all sheet_format fresh b
