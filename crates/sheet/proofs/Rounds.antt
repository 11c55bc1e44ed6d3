-- A sheet that is read: it has exactly the bytes that it was read from, and its numbers are as the reader asks.
use Prim.Native.Nat.{ℕ, zero, suc, ◌+◌, ◌*◌, ◌<◌, ◌≤◌}
use mathlib.Core.Path.{◌≡◌, refl, sym, ap, ap₂, subst, ◌∙◌}
use mathlib.Core.Bool.{Bool, true, false, not, false≢true, true≢false}
use mathlib.Core.Option.{none, some}
use mathlib.Core.Logic.{◌⊎◌, inl, inr}
use mathlib.Core.List.{List, [], ◌∷◌, ◌++◌, append_assoc, append-nil}
use native.Mathlib.Omega.{arith}
use native.Mathlib.Decide.{dec_lt}
use borrow.Author.Tests.{eqb-true, eqb-false, eq-eqb, lt-ltb, leb-true, leb-false, not-false, not-true}
use lib.ListN.{length, get_or, take, drop, length-drop, length-append, take-append-drop, get_or-append}
use lib.Seq.{drop-drop, drop-cons, get_or_at}
use lib.Dec.{eqb, leb}
use Rattle.folds.specs.Folds.{pick, both}
use Rattle.folds.specs.Answers.{Answer, value, refused}
use Rattle.folds.proofs.Tests.{not-value, value_same, not_some, both-parts, parts-both, either-none, below_suc}
use Rattle.folds.proofs.Laws.{any-each}
use Rattle.numbers.specs.Number.{Bytes, number_at, number_bytes}
use Rattle.numbers.proofs.Laws.{drop-bytes, bytes-of-number, number_lt}
use Rattle.commands.specs.Commands.{Outcome, refuse, go, judge}
use Rattle.commands.specs.Reading.{Going}
use Rattle.commands.proofs.Going.{starts, goes, refuses, ends, comes}
use Rattle.commands.proofs.Bytes.{by_byte}
use Rattle.sheet.specs.Sheet.{Sheet, Task, Link, no_task, no_link, task_count, link_count, work_of, store_of, source_of, target_of, cost_of, bytes_of}
use Rattle.sheet.specs.Format.{Kind, board, unpack, wire, task, link, end, kind_of, Progress, fresh, with_command, task_from, link_from, unwired, ended, joins, joins_by, sheet_format, read_form}
use Rattle.sheet.specs.Writing.{unpacking_bytes, board_bytes, task_bytes, link_bytes, sheet_bytes}
use Rattle.sheet.specs.Tables.{Ranged}
use Rattle.sheet.specs.Faults.{begun}
use Rattle.sheet.proofs.Judging.{sound-of}

-- a task has five bytes
pub task-bytes-length : (ts : List Task) → length (task_bytes ts) ≡ 5 * length ts
task-bytes-length [] = refl
task-bytes-length (t ∷ ts) = omega (arith, task-bytes-length ts)

-- what an accepted end says
pub ended-value : (s t : Sheet) (e : ℕ) (d : List ℕ) → ended (begun s) e d ≡ value t → (d ≡ []) × (s ≡ t)
unfolding ended
ended-value s t e (x ∷ d) h =
    let tail : ended (begun s) e (x ∷ d) ≡ refused 4 (e + 1) = rw (lt-ltb 0 (length (x ∷ d)) (omega arith)) in
    not-value (sym tail ∙ h)
ended-value s t e [] h = (refl, value_same h)

abbrev pub byte_of : Kind → ℕ
byte_of board = 0x4D
byte_of unpack = 0x55
byte_of wire = 0x48
byte_of task = 0x54
byte_of link = 0x45
byte_of end = 0x51

kind-byte : (c : ℕ) (k : Kind) → kind_of c ≡ some k → c ≡ byte_of k
kind-byte c k = by_byte byte_of c board k _ (by_byte byte_of c unpack k _ (by_byte byte_of c wire k _ (by_byte byte_of c task k _ (by_byte byte_of c link k _ (by_byte byte_of c end k none not_some)))))

-- a command that comes next, by its first byte and the rest
pub first_byte : (p : Progress) (d : List ℕ) (k : Kind) → judge sheet_format p d ≡ go k → d ≡ byte_of k ∷ drop 1 d
first_byte p d k j =
    let c = comes sheet_format p d k j in
    drop-cons d 0 0 c.more ∙ ap (λ (x : ℕ). x ∷ drop 1 d) (kind-byte _ k c.kind)

-- what every command behind the board carries on holds of the sheet that is read
module _ (Held : Sheet → List ℕ → Type 0)
    (more-unpack : (s : Sheet) (d : List ℕ) → judge sheet_format (begun s) d ≡ go unpack → Held s d → Held (with_command s unpack (drop 1 d)) (drop 3 d))
    (more-wire : (s : Sheet) (d : List ℕ) → judge sheet_format (begun s) d ≡ go wire → Held s d → Held (with_command s wire (drop 1 d)) (drop 1 d))
    (more-task : (s : Sheet) (d : List ℕ) → judge sheet_format (begun s) d ≡ go task → Held s d → Held (with_command s task (drop 1 d)) (drop 5 d))
    (more-link : (s : Sheet) (d : List ℕ) → judge sheet_format (begun s) d ≡ go link → Held s d → Held (with_command s link (drop 1 d)) (drop 7 d))
    (t : Sheet) where
  by-outcome : (s : Sheet) (e : ℕ) (d : List ℕ) → Held s d → Going sheet_format (value t) (begun s) e d
      → ((s' : Sheet) (e' : ℕ) (d' : List ℕ) → length d' < length d → Held s' d' → Going sheet_format (value t) (begun s') e' d' → Held t (0x51 ∷ []))
      → (o : Outcome Kind) → judge sheet_format (begun s) d ≡ o → Held t (0x51 ∷ [])
  by-outcome s e d h g rec (refuse r) j = not-value (sym (refuses sheet_format g r j))
  by-outcome s e d h g rec (go board) j = absurd (false≢true (sound-of (begun s) d board j).turn)
  by-outcome s e d h g rec (go unpack) j =
      rec _ _ _ (simp length-drop (omega (arith, (comes sheet_format (begun s) d unpack j).more))) (more-unpack s d j h) (goes sheet_format g unpack refl j)
  by-outcome s e d h g rec (go wire) j =
      rec _ _ _ (simp length-drop (omega (arith, (comes sheet_format (begun s) d wire j).more))) (more-wire s d j h) (goes sheet_format g wire refl j)
  by-outcome s e d h g rec (go task) j =
      rec _ _ _ (simp length-drop (omega (arith, (comes sheet_format (begun s) d task j).more))) (more-task s d j h) (goes sheet_format g task refl j)
  by-outcome s e d h g rec (go link) j =
      rec _ _ _ (simp length-drop (omega (arith, (comes sheet_format (begun s) d link j).more))) (more-link s d j h) (goes sheet_format g link refl j)
  by-outcome s e d h g rec (go end) j =
      let v = ended-value s t e (drop 1 d) (sym (ends sheet_format g end refl j)) in
      let whole : d ≡ 0x51 ∷ [] = first_byte (begun s) d end j ∙ ap (λ (x : List ℕ). 0x51 ∷ x) v.0 in
      subst (λ (x : Sheet). Held x (0x51 ∷ [])) v.1 (subst (Held s) whole h)

  carried : (n : ℕ) (s : Sheet) (e : ℕ) (d : List ℕ) → length d < n → Held s d → Going sheet_format (value t) (begun s) e d → Held t (0x51 ∷ [])
  carried zero s e d l h g = absurd (omega arith)
  carried (suc n) s e d l h g =
      by-outcome s e d h g (λ s' e' d' l' h' g'. carried n s' e' d' (omega arith) h' g') (judge sheet_format (begun s) d) refl

  from_first : (b : List ℕ) → read_form b ≡ value t
      → (judge sheet_format fresh b ≡ go board → Held (record { processors = get_or (drop 1 b) 0 0; limit = number_at 4 (drop 1 b) 1; unpacking = 0; cube = false; tasks = []; links = [] }) (drop 6 b))
      → (o : Outcome Kind) → judge sheet_format fresh b ≡ o → Held t (0x51 ∷ [])
  unfolding read_form
  from_first b h begins o j = by_first o j (subst (λ (a : Answer Sheet). Going sheet_format a fresh 0 b) h (starts sheet_format fresh b))
    where
      by_first : (o : Outcome Kind) → judge sheet_format fresh b ≡ o → Going sheet_format (value t) fresh 0 b → Held t (0x51 ∷ [])
      by_first (refuse r) j g = not-value (sym (refuses sheet_format g r j))
      by_first (go board) j g = carried (suc (length (drop 6 b))) _ _ _ (omega arith) (begins j) (goes sheet_format g board refl j)
      by_first (go unpack) j g = absurd (false≢true (sound-of fresh b unpack j).turn)
      by_first (go wire) j g = absurd (false≢true (sound-of fresh b wire j).turn)
      by_first (go task) j g = absurd (false≢true (sound-of fresh b task j).turn)
      by_first (go link) j g = absurd (false≢true (sound-of fresh b link j).turn)
      by_first (go end) j g = absurd (false≢true (sound-of fresh b end j).turn)

  read-holds : (b : List ℕ) → read_form b ≡ value t
      → (judge sheet_format fresh b ≡ go board → Held (record { processors = get_or (drop 1 b) 0 0; limit = number_at 4 (drop 1 b) 1; unpacking = 0; cube = false; tasks = []; links = [] }) (drop 6 b))
      → Held t (0x51 ∷ [])
  read-holds b h begins = from_first b h begins (judge sheet_format fresh b) refl

-- what follows the first m bytes, and the n after them
cut : (n m : ℕ) (b : List ℕ) → drop m b ≡ take n (drop m b) ++ drop (m + n) b
cut n m b = sym (take-append-drop n (drop m b)) ∙ ap (λ (l : List ℕ). take n (drop m b) ++ l) (drop-drop n m b)

-- a number of w bytes at m, with what follows it
cut-number : (w m : ℕ) (b more : List ℕ) → m + w ≤ length b → Bytes b → drop (m + w) b ≡ more → drop m b ≡ number_bytes w (number_at w b m) ++ more
cut-number w m b more h s e = cut w m b ∙ ap₂ (λ (x y : List ℕ). x ++ y) (sym (bytes-of-number w b m h s)) e

-- the operands of a command, as its bytes
board-operands : (b : List ℕ) → 5 ≤ length b → Bytes b → 0x4D ∷ b ≡ board_bytes (get_or b 0 0) (number_at 4 b 1) 0 false ++ drop 5 b
board-operands b h s = ap (λ (l : List ℕ). 0x4D ∷ l) (drop-cons b 0 0 (omega arith) ∙ ap (λ (l : List ℕ). get_or b 0 0 ∷ l) (cut-number 4 1 b (drop 5 b) (omega arith) s refl))

task-operands : (b : List ℕ) → 4 ≤ length b → Bytes b → 0x54 ∷ b ≡ task_bytes (task_from b ∷ []) ++ drop 4 b
task-operands b h s = ap (λ (l : List ℕ). 0x54 ∷ l) (cut-number 2 0 b _ (omega arith) s (cut-number 2 2 b (drop 4 b) (omega arith) s refl))

link-operands : (b : List ℕ) → 6 ≤ length b → Bytes b → 0x45 ∷ b ≡ link_bytes (link_from b ∷ []) ++ drop 6 b
link-operands b h s =
    ap (λ (l : List ℕ). 0x45 ∷ l)
    (drop-cons b 0 0 (omega arith)
    ∙ ap (λ (l : List ℕ). get_or b 0 0 ∷ l)
    (drop-cons b 1 0 (omega arith) ∙ ap (λ (l : List ℕ). get_or b 1 0 ∷ l) (cut-number 2 2 b _ (omega arith) s (cut-number 2 4 b (drop 6 b) (omega arith) s refl))))

pub task-bytes-append : (ts us : List Task) → task_bytes (ts ++ us) ≡ task_bytes ts ++ task_bytes us
task-bytes-append [] us = refl
task-bytes-append (t ∷ ts) us = ap (λ (l : List ℕ). task_bytes (t ∷ []) ++ l) (task-bytes-append ts us)

pub link-bytes-append : (ls us : List Link) → link_bytes (ls ++ us) ≡ link_bytes ls ++ link_bytes us
link-bytes-append [] us = refl
link-bytes-append (l ∷ ls) us = ap (λ (x : List ℕ). link_bytes (l ∷ []) ++ x) (link-bytes-append ls us)

-- a sheet's bytes but for the end
abbrev front : Sheet → List ℕ
front s = board_bytes s.processors s.limit s.unpacking s.cube ++ (task_bytes s.tasks ++ link_bytes s.links)

none_of : {X : Type 0} (xs : List X) → length xs ≡ 0 → xs ≡ []
none_of [] e = refl
none_of (x ∷ xs) e = absurd (omega arith)

-- where 48 comes neither it nor a task nor a link stands behind the board, and where 55 comes nothing does
record Unwired (s : Sheet) : Type 0 where
  cube : s.cube ≡ false
  tasks : s.tasks ≡ []
  links : s.links ≡ []

unwired-by : (s : Sheet) → unwired s ≡ true → Unwired s
unfolding task_count link_count
unwired-by s h =
    let a = both-parts (not s.cube) _ h in
    let b = both-parts (eqb (task_count s) 0) (eqb (link_count s) 0) a.1 in
    record { cube = not-true s.cube a.0; tasks = none_of s.tasks (eqb-true _ 0 b.0); links = none_of s.links (eqb-true _ 0 b.1) }

bare-here : (s : Sheet) (d : List ℕ) → judge sheet_format (begun s) d ≡ go unpack → (s.unpacking ≡ 0) × Unwired s
bare-here s d j =
    let a = both-parts (eqb s.unpacking 0) _ (sound-of (begun s) d unpack j).turn in
    (eqb-true _ 0 a.0, unwired-by s a.1)

unwired-here : (s : Sheet) (d : List ℕ) → judge sheet_format (begun s) d ≡ go wire → Unwired s
unwired-here s d j = unwired-by s (sound-of (begun s) d wire j).turn

-- the value of an unpacking time is not 0
some-time : (s : Sheet) (d : List ℕ) → judge sheet_format (begun s) d ≡ go unpack → eqb (number_at 2 (drop 1 d) 0) 0 ≡ false
some-time s d j = (sound-of (begun s) d unpack j).range

unpack-operands : (b : List ℕ) → 2 ≤ length b → Bytes b → eqb (number_at 2 b 0) 0 ≡ false → 0x55 ∷ b ≡ unpacking_bytes (number_at 2 b 0) ++ drop 2 b
unpack-operands b h s e = ap (λ (l : List ℕ). 0x55 ∷ l) (cut-number 2 0 b (drop 2 b) (omega arith) s refl) ∙ sym (ap (λ (t : Bool). pick t [] (0x55 ∷ number_bytes 2 (number_at 2 b 0)) ++ drop 2 b) e)

regroup : (b t u d : List ℕ) → b ++ (t ++ []) ++ (u ++ d) ≡ b ++ (t ++ u ++ []) ++ d
regroup b t u d = simp (append-nil, append_assoc)

regroup-links : (b t k u d : List ℕ) → (b ++ (t ++ k)) ++ (u ++ d) ≡ (b ++ (t ++ (k ++ u))) ++ d
regroup-links b t k u d = simp append_assoc

regroup-board : (b u d : List ℕ) → ((b ++ ([] ++ [])) ++ ([] ++ [])) ++ (u ++ d) ≡ ((b ++ (u ++ [])) ++ ([] ++ [])) ++ d
regroup-board b u d = simp (append-nil, append_assoc)

regroup-wire : (b u d : List ℕ) → ((b ++ (u ++ [])) ++ ([] ++ [])) ++ (0x48 ∷ d) ≡ ((b ++ (u ++ (0x48 ∷ []))) ++ ([] ++ [])) ++ d
regroup-wire b u d = simp (append-nil, append_assoc)

module _ (b₀ : List ℕ) where
  -- the bytes are those of the sheet so far, and then the rest
  record Passed (s : Sheet) (d : List ℕ) : Type 0 where
    same : b₀ ≡ front s ++ d
    small : Bytes d

  no-links : (s : Sheet) (d : List ℕ) → judge sheet_format (begun s) d ≡ go task → s.links ≡ []
  unfolding link_count
  no-links s d j = none_of s.links (eqb-true (link_count s) 0 (sound-of (begun s) d task j).turn)

  unpack-front : (s : Sheet) (u : ℕ) (d : List ℕ) → (s.unpacking ≡ 0) × Unwired s
      → front s ++ (unpacking_bytes u ++ d) ≡ front (record { processors = s.processors; limit = s.limit; unpacking = u; cube = s.cube; tasks = s.tasks; links = s.links }) ++ d
  unpack-front s u d e =
      let board : ℕ → Bool → List ℕ = board_bytes s.processors s.limit in
      ap₂ (λ (v : ℕ) (c : Bool). (board v c ++ (task_bytes s.tasks ++ link_bytes s.links)) ++ (unpacking_bytes u ++ d)) e.0 e.1.cube
      ∙ ap₂ (λ (ts : List Task) (ls : List Link). (board 0 false ++ (task_bytes ts ++ link_bytes ls)) ++ (unpacking_bytes u ++ d)) e.1.tasks e.1.links
      ∙ regroup-board (0x4D ∷ s.processors ∷ number_bytes 4 s.limit) (unpacking_bytes u) d
      ∙ sym (ap₂ (λ (ts : List Task) (ls : List Link). (board u false ++ (task_bytes ts ++ link_bytes ls)) ++ d) e.1.tasks e.1.links)
      ∙ sym (ap (λ (c : Bool). (board u c ++ (task_bytes s.tasks ++ link_bytes s.links)) ++ d) e.1.cube)

  wire-front : (s : Sheet) (d : List ℕ) → Unwired s
      → front s ++ (0x48 ∷ d) ≡ front (record { processors = s.processors; limit = s.limit; unpacking = s.unpacking; cube = true; tasks = s.tasks; links = s.links }) ++ d
  wire-front s d e =
      let board : Bool → List ℕ = board_bytes s.processors s.limit s.unpacking in
      ap (λ (c : Bool). (board c ++ (task_bytes s.tasks ++ link_bytes s.links)) ++ (0x48 ∷ d)) e.cube
      ∙ ap₂ (λ (ts : List Task) (ls : List Link). (board false ++ (task_bytes ts ++ link_bytes ls)) ++ (0x48 ∷ d)) e.tasks e.links
      ∙ regroup-wire (0x4D ∷ s.processors ∷ number_bytes 4 s.limit) (unpacking_bytes s.unpacking) d
      ∙ sym (ap₂ (λ (ts : List Task) (ls : List Link). (board true ++ (task_bytes ts ++ link_bytes ls)) ++ d) e.tasks e.links)

  task-front : (s : Sheet) (t : Task) (d : List ℕ) → s.links ≡ []
      → front s ++ (task_bytes (t ∷ []) ++ d) ≡ front (record { processors = s.processors; limit = s.limit; unpacking = s.unpacking; cube = s.cube; tasks = s.tasks ++ t ∷ []; links = s.links }) ++ d
  task-front s t d e =
      let b : List ℕ = board_bytes s.processors s.limit s.unpacking s.cube in
      let u : List ℕ = task_bytes (t ∷ []) in
      ap (λ (ls : List Link). b ++ (task_bytes s.tasks ++ link_bytes ls) ++ (u ++ d)) e
      ∙ regroup b (task_bytes s.tasks) u d
      ∙ ap (λ (x : List ℕ). b ++ (x ++ []) ++ d) (sym (task-bytes-append s.tasks (t ∷ [])))
      ∙ ap (λ (ls : List Link). b ++ (task_bytes (s.tasks ++ t ∷ []) ++ link_bytes ls) ++ d) (sym e)

  link-front : (s : Sheet) (l : Link) (d : List ℕ)
      → front s ++ (link_bytes (l ∷ []) ++ d) ≡ front (record { processors = s.processors; limit = s.limit; unpacking = s.unpacking; cube = s.cube; tasks = s.tasks; links = s.links ++ l ∷ [] }) ++ d
  link-front s l d =
      let b : List ℕ = board_bytes s.processors s.limit s.unpacking s.cube in
      regroup-links b (task_bytes s.tasks) (link_bytes s.links) (link_bytes (l ∷ [])) d
      ∙ ap (λ (x : List ℕ). (b ++ (task_bytes s.tasks ++ x)) ++ d) (sym (link-bytes-append s.links (l ∷ [])))

  pass-unpack : (s : Sheet) (d : List ℕ) → judge sheet_format (begun s) d ≡ go unpack → Passed s d → Passed (with_command s unpack (drop 1 d)) (drop 3 d)
  pass-unpack s d j h =
      let ops : List ℕ = drop 1 d in
      let bytes : d ≡ unpacking_bytes (number_at 2 ops 0) ++ drop 3 d =
      first_byte (begun s) d unpack j ∙ unpack-operands ops (sound-of (begun s) d unpack j).room (drop-bytes 1 d h.small) (some-time s d j) ∙ ap (λ (l : List ℕ). unpacking_bytes (number_at 2 ops 0) ++ l) (drop-drop 2 1 d) in
      record { same = h.same ∙ ap (λ (l : List ℕ). front s ++ l) bytes ∙ unpack-front s (number_at 2 ops 0) (drop 3 d) (bare-here s d j); small = drop-bytes 3 d h.small }

  pass-wire : (s : Sheet) (d : List ℕ) → judge sheet_format (begun s) d ≡ go wire → Passed s d → Passed (with_command s wire (drop 1 d)) (drop 1 d)
  pass-wire s d j h =
      record { same = h.same ∙ ap (λ (l : List ℕ). front s ++ l) (first_byte (begun s) d wire j) ∙ wire-front s (drop 1 d) (unwired-here s d j); small = drop-bytes 1 d h.small }

  pass-task : (s : Sheet) (d : List ℕ) → judge sheet_format (begun s) d ≡ go task → Passed s d → Passed (with_command s task (drop 1 d)) (drop 5 d)
  pass-task s d j h =
      let ops : List ℕ = drop 1 d in
      let bytes : d ≡ task_bytes (task_from ops ∷ []) ++ drop 5 d =
      first_byte (begun s) d task j ∙ task-operands ops (sound-of (begun s) d task j).room (drop-bytes 1 d h.small) ∙ ap (λ (l : List ℕ). task_bytes (task_from ops ∷ []) ++ l) (drop-drop 4 1 d) in
      record { same = h.same ∙ ap (λ (l : List ℕ). front s ++ l) bytes ∙ task-front s (task_from ops) (drop 5 d) (no-links s d j); small = drop-bytes 5 d h.small }

  pass-link : (s : Sheet) (d : List ℕ) → judge sheet_format (begun s) d ≡ go link → Passed s d → Passed (with_command s link (drop 1 d)) (drop 7 d)
  pass-link s d j h =
      let ops : List ℕ = drop 1 d in
      let bytes : d ≡ link_bytes (link_from ops ∷ []) ++ drop 7 d =
      first_byte (begun s) d link j ∙ link-operands ops (sound-of (begun s) d link j).room (drop-bytes 1 d h.small) ∙ ap (λ (l : List ℕ). link_bytes (link_from ops ∷ []) ++ l) (drop-drop 6 1 d) in
      record { same = h.same ∙ ap (λ (l : List ℕ). front s ++ l) bytes ∙ link-front s (link_from ops) (drop 7 d); small = drop-bytes 7 d h.small }

  pass-board : Bytes b₀ → judge sheet_format fresh b₀ ≡ go board → Passed (record { processors = get_or (drop 1 b₀) 0 0; limit = number_at 4 (drop 1 b₀) 1; unpacking = 0; cube = false; tasks = []; links = [] }) (drop 6 b₀)
  pass-board small j =
      let ops : List ℕ = drop 1 b₀ in
      record {
        same =
            first_byte fresh b₀ board j
            ∙ board-operands ops (sound-of fresh b₀ board j).room (drop-bytes 1 b₀ small)
            ∙ ap (λ (l : List ℕ). board_bytes (get_or ops 0 0) (number_at 4 ops 1) 0 false ++ l) (drop-drop 5 1 b₀);
        small = drop-bytes 6 b₀ small;
      }

-- a sheet that is read has the bytes that it was read from
pub bytes-again : (b : List ℕ) (s : Sheet) → ((k : ℕ) → get_or b k 0 < 256) → read_form b ≡ value s → sheet_bytes s ≡ b
unfolding sheet_bytes
bytes-again b s small h =
    let r = read-holds (Passed b) (pass-unpack b) (pass-wire b) (pass-task b) (pass-link b) s b h (pass-board b small) in
    sym (r.same ∙ simp append_assoc)

-- what the reader asks of a sheet, and all that it asks
pub record Proper (s : Sheet) : Type 0 where
  pub ranged : Ranged s
  pub some_processor : 1 ≤ s.processors
  pub limit : s.limit < 4294967296
  pub some_work : (t : ℕ) → t < task_count s → 1 ≤ work_of s t
  pub single : (i j : ℕ) → i < link_count s → j < link_count s → source_of s i ≡ source_of s j → target_of s i ≡ target_of s j → i ≡ j

-- a task and a link whose numbers fit their bytes
pub record TaskFits (t : Task) : Type 0 where
  pub work : t.work < 65536
  pub store : t.store < 65536

pub record LinkFits (l : Link) : Type 0 where
  pub cost : l.cost < 65536
  pub bytes : l.bytes < 65536

pub record Ends (n : ℕ) (l : Link) : Type 0 where
  pub source : l.source < n
  pub target : l.target < n

-- what the faults ask of the sheet so far, by its lists
pub record Shaped (s : Sheet) : Type 0 where
  pub few_tasks : length s.tasks ≤ 256
  pub few_links : length s.links ≤ 1024
  pub few_processors : s.processors ≤ 16
  pub some_processor : 1 ≤ s.processors
  pub works : (i : ℕ) → i < length s.tasks → 1 ≤ (get_or s.tasks i no_task).work
  pub ends : (i : ℕ) → i < length s.links → Ends (length s.tasks) (get_or s.links i no_link)
  pub apart : (i j : ℕ) → i < j → j < length s.links → (get_or s.links i no_link).source ≡ (get_or s.links j no_link).source → (get_or s.links i no_link).target ≡ (get_or s.links j no_link).target → ⊥

-- its numbers fit the bytes that they are read from
record Sized (s : Sheet) (d : List ℕ) : Type 0 where
  small : Bytes d
  limit : s.limit < 4294967296
  unpacks : s.unpacking < 65536
  tasks : (i : ℕ) → i < length s.tasks → TaskFits (get_or s.tasks i no_task)
  links : (i : ℕ) → i < length s.links → LinkFits (get_or s.links i no_link)

-- what holds of each of a list and of one more
each_more : {X : Type 0} (Q : X → Type 0) (xs : List X) (x d : X) → ((i : ℕ) → i < length xs → Q (get_or xs i d)) → Q x → (i : ℕ) → i < length (xs ++ x ∷ []) → Q (get_or (xs ++ x ∷ []) i d)
each_more Q [] x d h q zero l = q
each_more Q [] x d h q (suc i) l = absurd (omega arith)
each_more Q (y ∷ xs) x d h q zero l = h 0 (omega arith)
each_more Q (y ∷ xs) x d h q (suc i) l = each_more Q xs x d (λ j m. h (suc j) (omega arith)) q i (omega arith)

-- 55 and 48 change nothing of it
shape-again : (s : Sheet) (u : ℕ) (c : Bool) → Shaped s → Shaped (record { processors = s.processors; limit = s.limit; unpacking = u; cube = c; tasks = s.tasks; links = s.links })
shape-again s u c h =
    record {
      few_tasks = h.few_tasks;
      few_links = h.few_links;
      few_processors = h.few_processors;
      some_processor = h.some_processor;
      works = h.works;
      ends = h.ends;
      apart = h.apart;
    }

shape-task : (s : Sheet) (d : List ℕ) → judge sheet_format (begun s) d ≡ go task → Shaped s → Shaped (with_command s task (drop 1 d))
unfolding task_count
shape-task s d j h =
    let x : Task = task_from (drop 1 d) in
    let k = sound-of (begun s) d task j in
    let none_yet : length s.links ≡ 0 = ap length (no-links d s d j) in
    let busy : x.work ≡ 0 → ⊥ = eqb-false x.work 0 k.range in
    record {
      few_tasks = simp length-append (omega (arith, leb-false 256 (task_count s) k.space));
      few_links = h.few_links;
      few_processors = h.few_processors;
      some_processor = h.some_processor;
      works = each_more (λ (t : Task). 1 ≤ t.work) s.tasks x no_task h.works (omega arith);
      ends = λ i l. absurd (omega arith);
      apart = h.apart;
    }

shape-link : (s : Sheet) (d : List ℕ) → judge sheet_format (begun s) d ≡ go link → Shaped s → Shaped (with_command s link (drop 1 d))
unfolding task_count link_count joins joins_by source_of target_of
shape-link s d j h =
    let x : Link = link_from (drop 1 d) in
    let k = sound-of (begun s) d link j in
    let tight = either-none (leb (task_count s) x.source) (leb (task_count s) x.target) k.tight in
    record {
      few_tasks = h.few_tasks;
      few_links = simp length-append (omega (arith, leb-false 1024 (link_count s) k.space));
      few_processors = h.few_processors;
      some_processor = h.some_processor;
      works = h.works;
      ends =
          each_more (Ends (length s.tasks)) s.links x no_link h.ends
          record { source = leb-false (task_count s) x.source tight.0; target = leb-false (task_count s) x.target tight.1 };
      apart = apart_more s.links x h.apart (any-each (link_count s) (joins_by s x.source x.target) k.single);
    }
  where
    apart_more : (ls : List Link) (x : Link)
        → ((i j : ℕ) → i < j → j < length ls → (get_or ls i no_link).source ≡ (get_or ls j no_link).source → (get_or ls i no_link).target ≡ (get_or ls j no_link).target → ⊥)
        → ((i : ℕ) → i < length ls → both (eqb (get_or ls i no_link).source x.source) (eqb (get_or ls i no_link).target x.target) ≡ false)
        → (i j : ℕ) → i < j → j < length (ls ++ x ∷ []) → (get_or (ls ++ x ∷ []) i no_link).source ≡ (get_or (ls ++ x ∷ []) j no_link).source
        → (get_or (ls ++ x ∷ []) i no_link).target ≡ (get_or (ls ++ x ∷ []) j no_link).target → ⊥
    apart_more ls x old new i j l m p q = split (below_suc (omega (arith, length-append ls (x ∷ []))))
      where
        at_i : i < length ls → get_or (ls ++ x ∷ []) i no_link ≡ get_or ls i no_link
        at_i = get_or-append ls (x ∷ []) no_link i

        split : (j < length ls) ⊎ (j ≡ length ls) → ⊥
        split (inl b) =
            let at_j : get_or (ls ++ x ∷ []) j no_link ≡ get_or ls j no_link = get_or-append ls (x ∷ []) no_link j b in
            old i j l b (ap (λ (y : Link). y.source) (sym (at_i (omega arith))) ∙ p ∙ ap (λ (y : Link). y.source) at_j) (ap (λ (y : Link). y.target) (sym (at_i (omega arith))) ∙ q ∙ ap (λ (y : Link). y.target) at_j)
        split (inr b) =
            let at_j : get_or (ls ++ x ∷ []) j no_link ≡ x = get_or_at ls x [] no_link j (sym b) in
            let p' : (get_or ls i no_link).source ≡ x.source = ap (λ (y : Link). y.source) (sym (at_i (omega arith))) ∙ p ∙ ap (λ (y : Link). y.source) at_j in
            let q' : (get_or ls i no_link).target ≡ x.target = ap (λ (y : Link). y.target) (sym (at_i (omega arith))) ∙ q ∙ ap (λ (y : Link). y.target) at_j in
            true≢false (sym (parts-both _ _ (eq-eqb _ _ p') (eq-eqb _ _ q')) ∙ new i (omega arith))

shape-board : (b : List ℕ) → judge sheet_format fresh b ≡ go board → Shaped (record { processors = get_or (drop 1 b) 0 0; limit = number_at 4 (drop 1 b) 1; unpacking = 0; cube = false; tasks = []; links = [] })
shape-board b j =
    let inside = both-parts (leb 1 (get_or (drop 1 b) 0 0)) (leb (get_or (drop 1 b) 0 0) 16) (not-false _ (sound-of fresh b board j).range) in
    record {
      few_tasks = omega arith;
      few_links = omega arith;
      few_processors = leb-true _ 16 inside.1;
      some_processor = leb-true 1 _ inside.0;
      works = λ i l. absurd (omega arith);
      ends = λ i l. absurd (omega arith);
      apart = λ i j l m. absurd (omega arith);
    }

-- whatever the bytes are, a sheet that is read has the shape that its faults ask
pub read-shaped : (b : List ℕ) (s : Sheet) → read_form b ≡ value s → Shaped s
read-shaped b s h = read-holds (λ s d. Shaped s) (λ s d j h. shape-again s _ _ h) (λ s d j h. shape-again s _ _ h) shape-task shape-link s b h (shape-board b)

size-unpack : (s : Sheet) (d : List ℕ) → judge sheet_format (begun s) d ≡ go unpack → Sized s d → Sized (with_command s unpack (drop 1 d)) (drop 3 d)
size-unpack s d j h =
    record {
      small = drop-bytes 3 d h.small;
      limit = h.limit;
      unpacks = number_lt 2 (drop 1 d) 0 (drop-bytes 1 d h.small);
      tasks = h.tasks;
      links = h.links;
    }

size-wire : (s : Sheet) (d : List ℕ) → judge sheet_format (begun s) d ≡ go wire → Sized s d → Sized (with_command s wire (drop 1 d)) (drop 1 d)
size-wire s d j h = record { small = drop-bytes 1 d h.small; limit = h.limit; unpacks = h.unpacks; tasks = h.tasks; links = h.links }

size-task : (s : Sheet) (d : List ℕ) → judge sheet_format (begun s) d ≡ go task → Sized s d → Sized (with_command s task (drop 1 d)) (drop 5 d)
size-task s d j h =
    let small : Bytes (drop 1 d) = drop-bytes 1 d h.small in
    record {
      small = drop-bytes 5 d h.small;
      limit = h.limit;
      unpacks = h.unpacks;
      tasks = each_more TaskFits s.tasks (task_from (drop 1 d)) no_task h.tasks record { work = number_lt 2 (drop 1 d) 0 small; store = number_lt 2 (drop 1 d) 2 small };
      links = h.links;
    }

size-link : (s : Sheet) (d : List ℕ) → judge sheet_format (begun s) d ≡ go link → Sized s d → Sized (with_command s link (drop 1 d)) (drop 7 d)
size-link s d j h =
    let small : Bytes (drop 1 d) = drop-bytes 1 d h.small in
    record {
      small = drop-bytes 7 d h.small;
      limit = h.limit;
      unpacks = h.unpacks;
      tasks = h.tasks;
      links = each_more LinkFits s.links (link_from (drop 1 d)) no_link h.links record { cost = number_lt 2 (drop 1 d) 2 small; bytes = number_lt 2 (drop 1 d) 4 small };
    }

size-board : (b : List ℕ) → Bytes b → Sized (record { processors = get_or (drop 1 b) 0 0; limit = number_at 4 (drop 1 b) 1; unpacking = 0; cube = false; tasks = []; links = [] }) (drop 6 b)
size-board b small =
    record {
      small = drop-bytes 6 b small;
      limit = number_lt 4 (drop 1 b) 1 (drop-bytes 1 b small);
      unpacks = omega arith;
      tasks = λ i l. absurd (omega arith);
      links = λ i l. absurd (omega arith);
    }

-- no two links join the same tasks in the same direction
pub shaped-single : (s : Sheet) → Shaped s → (i j : ℕ) → i < link_count s → j < link_count s → source_of s i ≡ source_of s j → target_of s i ≡ target_of s j → i ≡ j
unfolding link_count source_of target_of
shaped-single s h i j p q a b = one (dec_lt i j) (dec_lt j i)
  where
    one : Dec (i < j) → Dec (j < i) → i ≡ j
    one (yes l) m = absurd (h.apart i j l q a b)
    one (no l) (yes m) = absurd (h.apart j i m p (sym a) (sym b))
    one (no l) (no m) = omega arith

-- the shape and the sizes together
pub proper : (s : Sheet) → Shaped s → s.limit < 4294967296 → s.unpacking < 65536 → ((i : ℕ) → i < task_count s → TaskFits (get_or s.tasks i no_task))
    → ((i : ℕ) → i < link_count s → LinkFits (get_or s.links i no_link)) → Proper s
unfolding task_count link_count work_of store_of source_of target_of cost_of bytes_of
proper s h limit unpacks tasks links =
    record {
      ranged =
          record {
            few_tasks = h.few_tasks;
            few_links = h.few_links;
            few_processors = h.few_processors;
            unpacks = unpacks;
            works = λ t l. (tasks t l).work;
            stores = λ t l. (tasks t l).store;
            source = λ l k. (h.ends l k).source;
            target = λ l k. (h.ends l k).target;
            costs = λ l k. (links l k).cost;
            sizes = λ l k. (links l k).bytes;
          };
      some_processor = h.some_processor;
      limit = limit;
      some_work = h.works;
      single = shaped-single s h;
    }

-- a sheet that is read is proper
pub read-ranged : (b : List ℕ) (s : Sheet) → ((k : ℕ) → get_or b k 0 < 256) → read_form b ≡ value s → Proper s
unfolding task_count link_count
read-ranged b s small h =
    let r = read-holds Sized size-unpack size-wire size-task size-link s b h (λ j. size-board b small) in
    proper s (read-shaped b s h) r.limit r.unpacks r.tasks r.links
