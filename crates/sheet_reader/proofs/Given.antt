-- A sheet given by its values: what the reader says of the bytes of a task and of a link, and the ways on and out of taking them in.
use Prim.Native.Nat.{ℕ, ◌+◌, ◌*◌, ◌/◌, ◌%◌, ◌-◌, ◌<◌, ◌≤◌}
use mathlib.Core.Path.{◌≡◌, refl, sym, ap, subst, ◌∙◌}
use mathlib.Core.Bool.{Bool, true, false, not}
use mathlib.Core.Option.{none, some}
use mathlib.Core.Logic.{◌≢◌, ◌⊎◌, inl, inr}
use mathlib.Core.List.{List, [], ◌∷◌, ◌++◌, append_assoc}
use native.Mathlib.Omega.{arith}
use native.Mathlib.Decide.{ℕ_discrete}
use borrow.Author.Tests.{eq-eqb, ne_eqb, le-ltb, lt-leb, le-leb}
use lib.ListN.{length, get_or}
use lib.Dec.{eqb, leb}
use Rattle.folds.specs.Folds.{pick, both}
use Rattle.folds.specs.Answers.{Answer}
use Rattle.folds.proofs.Tests.{both_false}
use Rattle.folds.proofs.Lists.{rest, rest_all, rest_more, rest-none}
use Rattle.numbers.specs.Number.{number_at, number_bytes}
use Rattle.numbers.proofs.Laws.{number_at-cons, number-of-bytes}
use Rattle.commands.specs.Commands.{refuse, go, judge, verdict, read_all}
use Rattle.commands.specs.Reading.{Going}
use Rattle.commands.proofs.Going.{starts, goes, refuses, going-is, going_on}
use Rattle.workspace.specs.Area.{link_count_at, task_count_at}
use Rattle.sheet.specs.Sheet.{Sheet, Task, Link, task_count, link_count}
use Rattle.sheet.specs.Sizes.{board_size, unpacking_size, task_size, link_size, front_by}
use Rattle.sheet.specs.Format.{board, unpack, wire, task, link, end, fresh, fault, sheet_format, read_form}
use Rattle.sheet.specs.Writing.{unpacking_bytes, cube_bytes, board_bytes, task_bytes, link_bytes, task_value, link_value, link_value_bytes, task_value_bytes, value_bytes}
use Rattle.sheet.specs.Tables.{sheet_in, pair_in, Loaded, Filling, LoadedOf, task_words, link_words, pair_words, unpacking_words, cube_words}
use Rattle.sheet.specs.Faults.{begun, task_fault, link_fault}
use Rattle.sheet_reader.specs.Answers.{ReadIs, values_closed}
use Rattle.sheet_reader.specs.Scanning.{Scanning, read_on}
use Rattle.std.specs.Prelude.{⊤, Result, Ok, Err}
use Rattle.refusals.specs.Refusals.{refusal}
use Rattle.refusals.specs.declared.Refusal.{Refusal}
use Rattle.sheet.proofs.Rows.{tasks-in, links-in}
use Rattle.sheet.proofs.Judging.{fault-unpack, wire-clear, fault-task, fault-link, fault-end}
use Rattle.sheet.proofs.Fronts.{front-none, front-some, front-cube}
use Rattle.sheet.proofs.Joins.{unpacking-loaded-of, cube-loaded-of}
use Rattle.sheet_reader.proofs.Scans.{read-refused, task-few, link-few, source-small, target_small, link-single, link-filling, scan-task, scan_link, scan-refuse, scan-whole}

pub scan-at : {a : Answer Sheet} {d w₀ w : List ℕ} {n m e : ℕ} (e' : ℕ) → Scanning a d w₀ w n m e → e ≡ e' → Scanning a d w₀ w n m e'
scan-at {a} {d} {w₀} {w} {n} {m} e' s h = subst (λ (k : ℕ). Scanning a d w₀ w n m k) h s

-- the numbers in a task's and a link's bytes
module _ (t : Task) (ts : List Task) (X : List ℕ) where
  work-byte : t.work < 65536 → number_at 2 (task_bytes (t ∷ ts) ++ X) 1 ≡ t.work
  work-byte h =
      number_at-cons 2 0x54 (number_bytes 2 t.work ++ (number_bytes 2 t.store ++ (task_bytes ts ++ X))) 0
      ∙ number-of-bytes 2 t.work (number_bytes 2 t.store ++ (task_bytes ts ++ X)) h

  store_byte : t.store < 65536 → number_at 2 (task_bytes (t ∷ ts) ++ X) 3 ≡ t.store
  store_byte h =
      let r : List ℕ = number_bytes 2 t.store ++ (task_bytes ts ++ X) in
      number_at-cons 2 0x54 (number_bytes 2 t.work ++ r) 2
      ∙ number_at-cons 2 (t.work % 256) (t.work / 256 % 256 ∷ r) 1
      ∙ number_at-cons 2 (t.work / 256 % 256) r 0 ∙ number-of-bytes 2 t.store (task_bytes ts ++ X) h

  pub judge-task : (s : Sheet) → link_count s ≡ 0 → t.work < 65536 → judge sheet_format (begun s) (task_bytes (t ∷ ts) ++ X) ≡ verdict sheet_format task (task_fault (task_count s) t.work)
  unfolding judge
  judge-task s e h =
      let ops : List ℕ = number_bytes 2 t.work ++ (number_bytes 2 t.store ++ (task_bytes ts ++ X)) in
      let f : fault (begun s) task ops ≡ task_fault (task_count s) t.work =
      fault-task s ops
      ∙ rw (eq-eqb (link_count s) 0 e, le-ltb (length ops) 4 (omega arith))
      (ap (task_fault (task_count s)) (number-of-bytes 2 t.work (number_bytes 2 t.store ++ (task_bytes ts ++ X)) h)) in
      ap (verdict sheet_format task) f

module _ (l : Link) (ls : List Link) (X : List ℕ) where
  cost-byte : l.cost < 65536 → number_at 2 (link_bytes (l ∷ ls) ++ X) 3 ≡ l.cost
  cost-byte h =
      let r : List ℕ = number_bytes 2 l.cost ++ (number_bytes 2 l.bytes ++ (link_bytes ls ++ X)) in
      number_at-cons 2 0x45 (l.source ∷ l.target ∷ r) 2
      ∙ number_at-cons 2 l.source (l.target ∷ r) 1
      ∙ number_at-cons 2 l.target r 0 ∙ number-of-bytes 2 l.cost (number_bytes 2 l.bytes ++ (link_bytes ls ++ X)) h

  size-byte : l.bytes < 65536 → number_at 2 (link_bytes (l ∷ ls) ++ X) 5 ≡ l.bytes
  size-byte h =
      let r : List ℕ = number_bytes 2 l.bytes ++ (link_bytes ls ++ X) in
      number_at-cons 2 0x45 (l.source ∷ l.target ∷ (number_bytes 2 l.cost ++ r)) 4
      ∙ number_at-cons 2 l.source (l.target ∷ (number_bytes 2 l.cost ++ r)) 3
      ∙ number_at-cons 2 l.target (number_bytes 2 l.cost ++ r) 2
      ∙ number_at-cons 2 (l.cost % 256) (l.cost / 256 % 256 ∷ r) 1
      ∙ number_at-cons 2 (l.cost / 256 % 256) r 0 ∙ number-of-bytes 2 l.bytes (link_bytes ls ++ X) h

  pub judge-link : (s : Sheet) → judge sheet_format (begun s) (link_bytes (l ∷ ls) ++ X) ≡ verdict sheet_format link (link_fault s l.source l.target)
  unfolding judge
  judge-link s =
      let ops : List ℕ = l.source ∷ l.target ∷ (number_bytes 2 l.cost ++ (number_bytes 2 l.bytes ++ (link_bytes ls ++ X))) in
      let f : fault (begun s) link ops ≡ link_fault s l.source l.target = fault-link s ops ∙ rw (le-ltb (length ops) 6 (omega arith)) in
      ap (verdict sheet_format link) f

-- taking in the tasks that f gives, before the bytes X
module _ (f : ℕ → Task) (n : ℕ) (X : List ℕ) {a : Answer Sheet} {w₀ w : List ℕ} {i e : ℕ} (s : Scanning a (task_bytes (rest i (n - i) f) ++ X) w₀ w i 0 e) (h : i < n) (small : (f i).work < 65536) where
  here : Scanning a (task_bytes (f i ∷ rest (i + 1) (n - (i + 1)) f) ++ X) w₀ w i 0 e
  here = subst (λ (ts : List Task). Scanning a (task_bytes ts ++ X) w₀ w i 0 e) (rest_more i n f h) s

  verdict-here : judge sheet_format (begun (sheet_in w)) (task_bytes (f i ∷ rest (i + 1) (n - (i + 1)) f) ++ X) ≡ verdict sheet_format task (task_fault i (f i).work)
  verdict-here =
      judge-task (f i) (rest (i + 1) (n - (i + 1)) f) X (sheet_in w) (links-in w ∙ s.links) small
      ∙ ap (λ (k : ℕ). verdict sheet_format task (task_fault k (f i).work)) (tasks-in w ∙ s.tasks)

  pub take-task : task_fault i (f i).work ≡ none → (f i).store < 65536
      → Scanning a (task_bytes (rest (i + 1) (n - (i + 1)) f) ++ X) w₀ (task_words w i (f i).work (f i).store) (i + 1) 0 (e + task_size)
  take-task clear h₂ =
      let ts : List Task = rest (i + 1) (n - (i + 1)) f in
      scan-task here (f i).work (f i).store (verdict-here ∙ ap (verdict sheet_format task) clear)
      (sym (work-byte (f i) ts X small)) (sym (store_byte (f i) ts X h₂)) small h₂

  pub task-fits : task_fault i (f i).work ≡ none → i < 256
  task-fits clear = task-few here (verdict-here ∙ ap (verdict sheet_format task) clear)

  pub refuse-task : (r : ℕ) → task_fault i (f i).work ≡ some r → ReadIs a w₀ w (Err (refusal r e))
  refuse-task r bad = scan-refuse here r (verdict-here ∙ ap (verdict sheet_format task) bad)

-- the same for the links that g gives
module _ (g : ℕ → Link) (m : ℕ) (X : List ℕ) {a : Answer Sheet} {w₀ w : List ℕ} {n j e : ℕ} (s : Scanning a (link_bytes (rest j (m - j) g) ++ X) w₀ w n j e) (h : j < m) where
  link_here : Scanning a (link_bytes (g j ∷ rest (j + 1) (m - (j + 1)) g) ++ X) w₀ w n j e
  link_here = subst (λ (ls : List Link). Scanning a (link_bytes ls ++ X) w₀ w n j e) (rest_more j m g h) s

  link-verdict : judge sheet_format (begun (sheet_in w)) (link_bytes (g j ∷ rest (j + 1) (m - (j + 1)) g) ++ X) ≡ verdict sheet_format link (link_fault (sheet_in w) (g j).source (g j).target)
  link-verdict = judge-link (g j) (rest (j + 1) (m - (j + 1)) g) X (sheet_in w)

  pub take_link : Filling w → link_fault (sheet_in w) (g j).source (g j).target ≡ none → (g j).cost < 65536 → (g j).bytes < 65536
      → Filling (link_words (pair_words w (g j).source (g j).target) j (g j).source (g j).target (g j).cost (g j).bytes)
      × Scanning a (link_bytes (rest (j + 1) (m - (j + 1)) g) ++ X) w₀ (link_words (pair_words w (g j).source (g j).target) j (g j).source (g j).target (g j).cost (g j).bytes) n (j + 1) (e + link_size)
  take_link f clear h₁ h₂ =
      let ls : List Link = rest (j + 1) (m - (j + 1)) g in
      let go_on = link-verdict ∙ ap (verdict sheet_format link) clear in (
        link-filling link_here (g j).source (g j).target go_on refl refl f (g j).cost (g j).bytes h₁ h₂,
        scan_link link_here (g j).source (g j).target go_on refl refl f (g j).cost (g j).bytes
            (sym (cost-byte (g j) ls X h₁)) (sym (size-byte (g j) ls X h₂)) h₁ h₂,
      )

  -- what adding it requires
  pub link_fits : Filling w → link_fault (sheet_in w) (g j).source (g j).target ≡ none → (j < 1024) × ((g j).source < 256) × ((g j).target < 256) × (pair_in w (g j).source (g j).target ≡ false)
  link_fits f clear =
      let go_on = link-verdict ∙ ap (verdict sheet_format link) clear in
      let few = s.loaded.tasks in (
        link-few link_here go_on,
        omega (arith, source-small link_here (g j).source (g j).target go_on refl refl),
        omega (arith, target_small link_here (g j).source (g j).target go_on refl refl),
        link-single link_here (g j).source (g j).target go_on refl refl f,
      )

  pub refuse-link : (r : ℕ) → link_fault (sheet_in w) (g j).source (g j).target ≡ some r → ReadIs a w₀ w (Err (refusal r e))
  refuse-link r bad = scan-refuse link_here r (link-verdict ∙ ap (verdict sheet_format link) bad)

-- behind the last link: one that is cut, or the end
pub cut-link : (s : Sheet) → judge sheet_format (begun s) (0x45 ∷ []) ≡ refuse 1
unfolding judge
cut-link s = ap (verdict sheet_format link) (fault-link s [])

pub cut-task : (s : Sheet) → link_count s ≡ 0 → judge sheet_format (begun s) (0x54 ∷ []) ≡ refuse 1
unfolding judge
cut-task s e =
    let f : fault (begun s) task [] ≡ some 1 = fault-task s [] ∙ rw (eq-eqb (link_count s) 0 e) in
    ap (verdict sheet_format task) f

pub at-end : (s : Sheet) → judge sheet_format (begun s) (0x51 ∷ []) ≡ go end
unfolding judge
at-end s = ap (verdict sheet_format end) (fault-end s [])

-- the state before the first link, and behind the last
abbrev pub link_tail : List ℕ → List ℕ
link_tail v = pick (eqb (length v % 4) 0) (0x51 ∷ []) (0x45 ∷ [])

pub links-start : (v w : List ℕ) (n e : ℕ) → Filling w → n ≡ get_or w task_count_at 0 → get_or w link_count_at 0 ≡ 0
    → Scanning (read_on w (link_value_bytes v) e) (link_bytes (rest 0 (length v / 4 - 0) (link_value v)) ++ link_tail v) w w n 0 e
unfolding read_on link_value_bytes
links-start v w n e f p q =
    record {
      long = refl;
      loaded = f.loaded;
      tasks = sym p;
      links = q;
      going =
          subst (λ (ls : List Link). Going sheet_format (read_on w (link_value_bytes v) e) (begun (sheet_in w)) e (link_bytes ls ++ link_tail v))
          (sym (rest_all (length v / 4) (link_value v))) (going_on sheet_format (begun (sheet_in w)) e (link_value_bytes v));
    }

module _ (v : List ℕ) {a : Answer Sheet} {w₀ w : List ℕ} {n j e : ℕ} (s : Scanning a (link_bytes (rest j (length v / 4 - j) (link_value v)) ++ link_tail v) w₀ w n j e) (h : j ≡ length v / 4) where
  links-over : Scanning a (link_tail v) w₀ w n j e
  links-over = subst (λ (ls : List Link). Scanning a (link_bytes ls ++ link_tail v) w₀ w n j e) (rest-none j (length v / 4) (link_value v) h) s

  pub links-closed : (r : Result ⊤ Refusal) (start : ℕ) → e ≡ start + link_size * j → r ≡ values_closed (length v) start → ReadIs a w₀ w r
  unfolding values_closed
  links-closed r start p q = subst (ReadIs a w₀ w) (sym q) (tail (ℕ_discrete (length v % 4) 0))
    where
      place : e ≡ start + link_size * (length v / 4)
      place = omega arith

      tail : Dec (length v % 4 ≡ 0) → ReadIs a w₀ w (pick (eqb (length v % 4) 0) (Ok tt) (Err (refusal 1 (start + link_size * (length v / 4)))))
      tail (yes z) =
          let b : eqb (length v % 4) 0 ≡ true = eq-eqb (length v % 4) 0 z in
          rw b (scan-whole (subst (λ (t : Bool). Scanning a (pick t (0x51 ∷ []) (0x45 ∷ [])) w₀ w n j e) b links-over) (at-end (sheet_in w)) refl)
      tail (no z) =
          let b : eqb (length v % 4) 0 ≡ false = ne_eqb (length v % 4) 0 z in
          rw (b, ← place) (scan-refuse (subst (λ (t : Bool). Scanning a (pick t (0x51 ∷ []) (0x45 ∷ [])) w₀ w n j e) b links-over) 1 (cut-link (sheet_in w)))

-- the same for tasks
abbrev pub task_tail : List ℕ → List ℕ → List ℕ
task_tail v u = pick (eqb (length v % 2) 0) (link_value_bytes u) (0x54 ∷ [])

pub tasks-start : (v u w : List ℕ) (e : ℕ) → Loaded w → get_or w task_count_at 0 ≡ 0 → get_or w link_count_at 0 ≡ 0
    → Scanning (read_on w (task_value_bytes v u) e) (task_bytes (rest 0 (length v / 2 - 0) (task_value v)) ++ task_tail v u) w w 0 0 e
unfolding read_on task_value_bytes
tasks-start v u w e f p q =
    record {
      long = refl;
      loaded = f;
      tasks = p;
      links = q;
      going =
          subst (λ (ts : List Task). Going sheet_format (read_on w (task_value_bytes v u) e) (begun (sheet_in w)) e (task_bytes ts ++ task_tail v u))
          (sym (rest_all (length v / 2) (task_value v))) (going_on sheet_format (begun (sheet_in w)) e (task_value_bytes v u));
    }

module _ (v u : List ℕ) {a : Answer Sheet} {w₀ w : List ℕ} {i e : ℕ} (s : Scanning a (task_bytes (rest i (length v / 2 - i) (task_value v)) ++ task_tail v u) w₀ w i 0 e) (h : i ≡ length v / 2) where
  tasks-over : Scanning a (task_tail v u) w₀ w i 0 e
  tasks-over = subst (λ (ts : List Task). Scanning a (task_bytes ts ++ task_tail v u) w₀ w i 0 e) (rest-none i (length v / 2) (task_value v) h) s

  pub tasks-cut : length v % 2 ≢ 0 → ReadIs a w₀ w (Err (refusal 1 e))
  tasks-cut z =
      scan-refuse (subst (λ (t : Bool). Scanning a (pick t (link_value_bytes u) (0x54 ∷ [])) w₀ w i 0 e) (ne_eqb (length v % 2) 0 z) tasks-over) 1
      (cut-task (sheet_in w) (links-in w ∙ s.links))

  -- the links are read on with the words as they are
  pub tasks-done : length v % 2 ≡ 0 → a ≡ read_on w (link_value_bytes u) e
  unfolding read_on
  tasks-done z = going-is sheet_format (subst (λ (t : Bool). Scanning a (pick t (link_value_bytes u) (0x54 ∷ [])) w₀ w i 0 e) (eq-eqb (length v % 2) 0 z) tasks-over).going

-- the board command of the values
pub opening : (p l u : ℕ) (c : Bool) (X : List ℕ) → judge sheet_format fresh (board_bytes p l u c ++ X) ≡ verdict sheet_format board (pick (not (both (leb 1 p) (leb p 16))) (some 6) none)
unfolding judge fault
opening p l u c X =
    let ops : List ℕ = p ∷ (number_bytes 4 l ++ ((unpacking_bytes u ++ cube_bytes c) ++ X)) in
    rw (le-ltb (length ops) 5 (omega arith))

-- a sheet by its parts
abbrev pub made : ℕ → ℕ → ℕ → Bool → List Task → List Link → Sheet
made p l u c ts ls = record { processors = p; limit = l; unpacking = u; cube = c; tasks = ts; links = ls }

-- the unpacking time directly behind the board
unpack-opens : (p l u : ℕ) (X : List ℕ) → u ≢ 0 → u < 65536 → judge sheet_format (begun (made p l 0 false [] [])) (0x55 ∷ (number_bytes 2 u ++ X)) ≡ go unpack
unfolding judge task_count link_count
unpack-opens p l u X some-time small =
    let ops : List ℕ = number_bytes 2 u ++ X in
    let f : fault (begun (made p l 0 false [] [])) unpack ops ≡ none =
    fault-unpack (made p l 0 false [] []) ops ∙ rw (le-ltb (length ops) 2 (omega arith), number-of-bytes 2 u X small, ne_eqb u 0 some-time) in
    ap (verdict sheet_format unpack) f

-- the unpacking time is read, or is not there and is 0
unpacking-on : (a : Answer Sheet) (p l u : ℕ) (X : List ℕ) → u < 65536 → Going sheet_format a (begun (made p l 0 false [] [])) board_size (unpacking_bytes u ++ X)
    → Going sheet_format a (begun (made p l u false [] [])) (front_by u false) X
unpacking-on a p l u X small g = by (ℕ_discrete u 0)
  where
    bytes : (t : Bool) → eqb u 0 ≡ t → Going sheet_format a (begun (made p l 0 false [] [])) board_size (pick t [] (0x55 ∷ number_bytes 2 u) ++ X)
    bytes t e = subst (λ (t : Bool). Going sheet_format a (begun (made p l 0 false [] [])) board_size (pick t [] (0x55 ∷ number_bytes 2 u) ++ X)) e g

    by : Dec (u ≡ 0) → Going sheet_format a (begun (made p l u false [] [])) (front_by u false) X
    by (yes z) =
        rw (front-none u z) (subst (λ (x : ℕ). Going sheet_format a (begun (made p l x false [] [])) board_size X) (sym z) (bytes true (eq-eqb u 0 z)))
    by (no z) =
        rw (front-some u z) (subst (λ (x : ℕ). Going sheet_format a (begun (made p l x false [] [])) (board_size + unpacking_size) X) (number-of-bytes 2 u X small)
        (goes sheet_format (bytes false (ne_eqb u 0 z)) unpack refl (unpack-opens p l u X z small)))

-- the cube behind them is read, or is not there
cube-opens : (p l u : ℕ) (X : List ℕ) → judge sheet_format (begun (made p l u false [] [])) (0x48 ∷ X) ≡ go wire
unfolding judge task_count link_count
cube-opens p l u X = ap (verdict sheet_format wire) (wire-clear (made p l u false [] []) X refl)

cube-on : (a : Answer Sheet) (p l u : ℕ) (c : Bool) (X : List ℕ) → Going sheet_format a (begun (made p l u false [] [])) (front_by u false) (cube_bytes c ++ X)
    → Going sheet_format a (begun (made p l u c [] [])) (front_by u c) X
cube-on a p l u false X g = g
cube-on a p l u true X g = rw (front-cube u true) (goes sheet_format g wire refl (cube-opens p l u X))

-- behind the board reading goes on with the tasks
pub board-on : (a : Answer Sheet) (p l u : ℕ) (c : Bool) (X : List ℕ) → Going sheet_format a fresh 0 (board_bytes p l u c ++ X) → judge sheet_format fresh (board_bytes p l u c ++ X) ≡ go board
    → l < 4294967296 → u < 65536 → Going sheet_format a (begun (made p l u c [] [])) (front_by u c) X
board-on a p l u c X g j h k =
    let Y : List ℕ = (unpacking_bytes u ++ cube_bytes c) ++ X in
    let limit : number_at 4 (p ∷ (number_bytes 4 l ++ Y)) 1 ≡ l = number_at-cons 4 p (number_bytes 4 l ++ Y) 0 ∙ number-of-bytes 4 l Y h in
    cube-on a p l u c X
    (unpacking-on a p l u (cube_bytes c ++ X) k
    (subst (Going sheet_format a (begun (made p l 0 false [] [])) board_size) (append_assoc (unpacking_bytes u) (cube_bytes c) X)
    (subst (λ (x : ℕ). Going sheet_format a (begun (made p x 0 false [] [])) board_size Y) limit (goes sheet_format g board refl j))))

-- the board's words, and then its unpacking time
pub board-timed : {p l : ℕ} {w v v' : List ℕ} (u : ℕ) → LoadedOf (made p l 0 false [] []) w v → v' ≡ unpacking_words v u → u < 65536 → LoadedOf (made p l u false [] []) w v'
board-timed {p} {l} {w} u h e small = subst (LoadedOf (made p l u false [] []) w) (sym e) (unpacking-loaded-of u h small)

-- the board's words, and then its cube, or none
module _ {p l u : ℕ} {w v : List ℕ} (c : Bool) where
  pub board-wired : {v' : List ℕ} → c ≡ true → LoadedOf (made p l u false [] []) w v → v' ≡ cube_words v → LoadedOf (made p l u c [] []) w v'
  board-wired {v'} e h q = subst (λ (t : Bool). LoadedOf (made p l u t [] []) w v') (sym e) (subst (LoadedOf (made p l u true [] []) w) (sym q) (cube-loaded-of h))

  pub board-unwired : c ≡ false → LoadedOf (made p l u false [] []) w v → LoadedOf (made p l u c [] []) w v
  board-unwired e h = subst (λ (t : Bool). LoadedOf (made p l u t [] []) w v) (sym e) h

pub board-refused : (p l x : ℕ) (c : Bool) (v u w : List ℕ) → (p < 1) ⊎ (16 < p) → ReadIs (read_form (value_bytes p l x c v u)) w w (Err (refusal 6 0))
unfolding read_form value_bytes
board-refused p l x c v u w h =
    read-refused _ w w 6 0 refl
    (refuses sheet_format (starts sheet_format fresh (board_bytes p l x c ++ task_value_bytes v u)) 6 (opening p l x c (task_value_bytes v u) ∙ ap (λ (t : Bool). verdict sheet_format board (pick (not t) (some 6) none)) (outside h)))
  where
    outside : (p < 1) ⊎ (16 < p) → both (leb 1 p) (leb p 16) ≡ false
    outside (inl q) = rw (lt-leb 1 p q)
    outside (inr q) = rw (lt-leb p 16 q) (both_false (leb 1 p))

pub board-read : (p l x : ℕ) (c : Bool) (v u w w' : List ℕ) → 1 ≤ p → p ≤ 16 → l < 4294967296 → x < 65536 → LoadedOf (made p l x c [] []) w w'
    → read_form (value_bytes p l x c v u) ≡ read_on w' (task_value_bytes v u) (front_by x c)
unfolding read_form value_bytes read_on
board-read p l x c v u w w' h k small time f =
    let X : List ℕ = task_value_bytes v u in
    let j : judge sheet_format fresh (board_bytes p l x c ++ X) ≡ go board = opening p l x c X ∙ rw (le-leb 1 p h, le-leb p 16 k) in
    going-is sheet_format
    (subst (λ (s : Sheet). Going sheet_format (read_all sheet_format fresh (board_bytes p l x c ++ X)) (begun s) (front_by x c) X) (sym f.sheet)
    (board-on _ p l x c X (starts sheet_format fresh (board_bytes p l x c ++ X)) j small time))

-- an answer known by another name
pub read_as : {a b : Answer Sheet} {w last : List ℕ} {r : Result ⊤ Refusal} → a ≡ b → ReadIs b w last r → ReadIs a w last r
read_as {a} {b} {w} {last} {r} e h = subst (λ (x : Answer Sheet). ReadIs x w last r) (sym e) h
