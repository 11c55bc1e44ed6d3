-- A sheet that is written and read: the length of its bytes, that what is read from them is that sheet, and that a proper sheet is read back.
use Prim.Native.Nat.{ℕ, ◌+◌, ◌*◌, ◌/◌, ◌%◌, ◌<◌, ◌≤◌}
use mathlib.Core.Path.{◌≡◌, refl, sym, ap, ap₂, subst, ◌∙◌}
use mathlib.Core.Bool.{Bool, true, false, not}
use mathlib.Core.Option.{Option, none, some}
use mathlib.Core.List.{List, [], ◌∷◌, ◌++◌, append-nil}
use native.Mathlib.Omega.{arith}
use native.Mathlib.Decide.{ℕ_discrete}
use borrow.Author.Tests.{eq-eqb, ne_eqb, eqb-true, le-leb, lt-leb}
use lib.ListN.{length, get_or, length-append, get_or-append}
use lib.Seq.{get_or_at, append_snoc}
use lib.Dec.{eqb, leb}
use Rattle.folds.specs.Folds.{pick, both, any, listed}
use Rattle.folds.specs.Answers.{Answer, value}
use Rattle.folds.proofs.Tests.{not-value, both-parts}
use Rattle.folds.proofs.Laws.{none_any}
use Rattle.folds.proofs.Lists.{length-listed, get_or-listed}
use Rattle.numbers.specs.Number.{number_at, number_bytes}
use Rattle.numbers.proofs.Laws.{number_at-cons, number-of-bytes}
use Rattle.commands.specs.Commands.{go, judge, verdict}
use Rattle.commands.specs.Reading.{Going}
use Rattle.commands.proofs.Going.{starts, goes, refuses, ends}
use Rattle.sheet.specs.Sheet.{Sheet, Task, Link, no_task, no_link, task_count, link_count, work_of, store_of, source_of, target_of, cost_of, bytes_of}
use Rattle.sheet.specs.Sizes.{task_size, link_size, front_by, front_of, size_of}
use Rattle.sheet.specs.Format.{Kind, board, task, link, end, Progress, fresh, task_from, link_from, ended, joins, joins_by, sheet_format, read_form}
use Rattle.sheet.specs.Writing.{board_bytes, task_bytes, link_bytes, sheet_bytes, task_value, link_value, sheet_of_values, link_value_bytes, task_value_bytes, value_bytes, task_values, link_values}
use Rattle.sheet.specs.Faults.{begun, task_fault, link_fault}
use Rattle.sheet_reader.proofs.Given.{judge-task, judge-link, cut-task, cut-link, at-end, opening, made, board-on, task_tail, link_tail}
use Rattle.sheet.proofs.Fronts.{board-length}
use Rattle.sheet.proofs.Values.{task-values-length, link-values-length, sheet-again}
use Rattle.sheet.proofs.Rounds.{task-bytes-length, ended-value, Proper, TaskFits, LinkFits, read-shaped, proper}

-- lengths
pub link-bytes-length : (ls : List Link) → length (link_bytes ls) ≡ link_size * length ls
link-bytes-length [] = refl
link-bytes-length (l ∷ ls) = omega (arith, link-bytes-length ls)

pub sheet-length : (s : Sheet) → length (sheet_bytes s) ≡ size_of s
unfolding sheet_bytes task_count link_count
sheet-length s =
    omega (
      arith,
      length-append (board_bytes s.processors s.limit s.unpacking s.cube) (task_bytes s.tasks ++ (link_bytes s.links ++ 0x51 ∷ [])),
      board-length s.processors s.limit s.unpacking s.cube,
      length-append (task_bytes s.tasks) (link_bytes s.links ++ 0x51 ∷ []),
      length-append (link_bytes s.links) (0x51 ∷ []),
      task-bytes-length s.tasks,
      link-bytes-length s.links,
    )

module _ (p l u : ℕ) (c : Bool) (tv lv : List ℕ) where
  pub values-tasks : task_count (sheet_of_values p l u c tv lv) ≡ length tv / 2
  unfolding task_count sheet_of_values
  values-tasks = length-listed _ _

  pub values-links : link_count (sheet_of_values p l u c tv lv) ≡ length lv / 4
  unfolding link_count sheet_of_values
  values-links = length-listed _ _

  module _ (even : length tv % 2 ≡ 0) (whole : length lv % 4 ≡ 0) where
    -- whole values have the bytes of their sheet
    pub values-bytes : value_bytes p l u c tv lv ≡ sheet_bytes (sheet_of_values p l u c tv lv)
    unfolding value_bytes task_value_bytes link_value_bytes sheet_bytes sheet_of_values
    values-bytes = rw (eq-eqb (length tv % 2) 0 even, eq-eqb (length lv % 4) 0 whole)

    pub written-length : length (value_bytes p l u c tv lv) ≡ front_by u c + task_size * (length tv / 2) + link_size * (length lv / 4) + 1
    unfolding sheet_of_values
    written-length = ap length values-bytes ∙ sheet-length (sheet_of_values p l u c tv lv) ∙ ap₂ (λ (n m : ℕ). front_by u c + task_size * n + link_size * m + 1) values-tasks values-links

-- the values of a sheet are written as its bytes
pub bytes-of-values : (s : Sheet) → value_bytes s.processors s.limit s.unpacking s.cube (task_values s.tasks) (link_values s.links) ≡ sheet_bytes s
bytes-of-values s =
    let t = task_values s.tasks in
    let l = link_values s.links in
    values-bytes s.processors s.limit s.unpacking s.cube t l (omega (arith, task-values-length s.tasks)) (omega (arith, link-values-length s.links)) ∙ ap sheet_bytes (sheet-again s)

-- a task and a link, read from their bytes
task-back : (t : Task) (X : List ℕ) → TaskFits t → task_from (number_bytes 2 t.work ++ (number_bytes 2 t.store ++ X)) ≡ t
task-back t X h =
    let r : List ℕ = number_bytes 2 t.store ++ X in
    let a : number_at 2 (number_bytes 2 t.work ++ r) 0 ≡ t.work = number-of-bytes 2 t.work r h.work in
    let b : number_at 2 (number_bytes 2 t.work ++ r) 2 ≡ t.store =
    number_at-cons 2 (t.work % 256) (t.work / 256 % 256 ∷ r) 1 ∙ number_at-cons 2 (t.work / 256 % 256) r 0 ∙ number-of-bytes 2 t.store X h.store in
    λ i. record { work = a i; store = b i }

link-back : (l : Link) (X : List ℕ) → LinkFits l → link_from (l.source ∷ l.target ∷ (number_bytes 2 l.cost ++ (number_bytes 2 l.bytes ++ X))) ≡ l
link-back l X h =
    let r : List ℕ = number_bytes 2 l.bytes ++ X in
    let u : List ℕ = number_bytes 2 l.cost ++ r in
    let a : number_at 2 (l.source ∷ l.target ∷ u) 2 ≡ l.cost =
    number_at-cons 2 l.source (l.target ∷ u) 1 ∙ number_at-cons 2 l.target u 0 ∙ number-of-bytes 2 l.cost r h.cost in
    let b : number_at 2 (l.source ∷ l.target ∷ u) 4 ≡ l.bytes =
    number_at-cons 2 l.source (l.target ∷ u) 3
    ∙ number_at-cons 2 l.target u 2
    ∙ number_at-cons 2 (l.cost % 256) (l.cost / 256 % 256 ∷ r) 1
    ∙ number_at-cons 2 (l.cost / 256 % 256) r 0 ∙ number-of-bytes 2 l.bytes X h.bytes in
    λ i. record { source = l.source; target = l.target; cost = a i; bytes = b i }

-- the element behind a front
behind : {X : Type 0} (pre : List X) (x : X) (post all : List X) (d : X) → pre ++ x ∷ post ≡ all → (length pre < length all) × (get_or all (length pre) d ≡ x)
behind pre x post all d e =
    (omega (arith, length-append pre (x ∷ post), ap length e), ap (λ (l : List _). get_or l (length pre) d) (sym e) ∙ get_or_at pre x post d (length pre) refl)

-- reading the bytes of a sheet with the answer a, where nothing refuses a command of it
module _ (a : Answer Sheet) (p l u : ℕ) (c : Bool) where
  -- a task, and a link, that nothing refuses
  abbrev TaskClear : List Task → List ℕ → Type 0
  TaskClear all X =
      (pre : List Task) (t : Task) (post : List Task) (e : ℕ) → pre ++ t ∷ post ≡ all → Going sheet_format a (begun (made p l u c pre [])) e (task_bytes (t ∷ post) ++ X)
      → judge sheet_format (begun (made p l u c pre [])) (task_bytes (t ∷ post) ++ X) ≡ verdict sheet_format task (task_fault (length pre) t.work) → task_fault (length pre) t.work ≡ none

  abbrev LinkClear : List Task → List Link → List ℕ → Type 0
  LinkClear ts all X =
      (pre : List Link) (x : Link) (post : List Link) (e : ℕ) → pre ++ x ∷ post ≡ all → Going sheet_format a (begun (made p l u c ts pre)) e (link_bytes (x ∷ post) ++ X)
      → judge sheet_format (begun (made p l u c ts pre)) (link_bytes (x ∷ post) ++ X) ≡ verdict sheet_format link (link_fault (made p l u c ts pre) x.source x.target)
      → link_fault (made p l u c ts pre) x.source x.target ≡ none

  tasks-on : (X : List ℕ) (all : List Task) → ((i : ℕ) → i < length all → TaskFits (get_or all i no_task)) → TaskClear all X
      → (ts pre : List Task) (e : ℕ) → pre ++ ts ≡ all → Going sheet_format a (begun (made p l u c pre [])) e (task_bytes ts ++ X) → (e' : ℕ) × Going sheet_format a (begun (made p l u c all [])) e' X
  unfolding task_count link_count
  tasks-on X all fits clear [] pre e q g = (e, subst (λ (ts : List Task). Going sheet_format a (begun (made p l u c ts [])) e X) (sym (append-nil pre) ∙ q) g)
  tasks-on X all fits clear (t ∷ ts) pre e q g =
      let at = behind pre t ts all no_task q in
      let fit : TaskFits t = subst TaskFits at.1 (fits (length pre) at.0) in
      let v = judge-task t ts X (made p l u c pre []) refl fit.work in
      let j = v ∙ ap (verdict sheet_format task) (clear pre t ts e q g v) in
      tasks-on X all fits clear ts (pre ++ t ∷ []) (e + task_size) (append_snoc pre t ts ∙ q)
      (subst (λ (x : Task). Going sheet_format a (begun (made p l u c (pre ++ x ∷ []) [])) (e + task_size) (task_bytes ts ++ X)) (task-back t (task_bytes ts ++ X) fit) (goes sheet_format g task refl j))

  links-on : (X : List ℕ) (ts : List Task) (all : List Link) → ((i : ℕ) → i < length all → LinkFits (get_or all i no_link)) → LinkClear ts all X
      → (ls pre : List Link) (e : ℕ) → pre ++ ls ≡ all → Going sheet_format a (begun (made p l u c ts pre)) e (link_bytes ls ++ X) → (e' : ℕ) × Going sheet_format a (begun (made p l u c ts all)) e' X
  links-on X ts all fits clear [] pre e q g = (e, subst (λ (ls : List Link). Going sheet_format a (begun (made p l u c ts ls)) e X) (sym (append-nil pre) ∙ q) g)
  links-on X ts all fits clear (x ∷ ls) pre e q g =
      let at = behind pre x ls all no_link q in
      let fit : LinkFits x = subst LinkFits at.1 (fits (length pre) at.0) in
      let v = judge-link x ls X (made p l u c ts pre) in
      let j = v ∙ ap (verdict sheet_format link) (clear pre x ls e q g v) in
      links-on X ts all fits clear ls (pre ++ x ∷ []) (e + link_size) (append_snoc pre x ls ∙ q)
      (subst (λ (y : Link). Going sheet_format a (begun (made p l u c ts (pre ++ y ∷ []))) (e + link_size) (link_bytes ls ++ X)) (link-back x (link_bytes ls ++ X) fit) (goes sheet_format g link refl j))

-- on the way to a sheet nothing is refused
unrefused : {s : Sheet} {p : Progress} {e : ℕ} {d : List ℕ} (k : Kind) (o : Option ℕ) → Going sheet_format (value s) p e d → judge sheet_format p d ≡ verdict sheet_format k o → o ≡ none
unrefused k none g j = refl
unrefused k (some r) g j = not-value (sym (refuses sheet_format g r j))

module _ (p l u : ℕ) (c : Bool) (tv lv : List ℕ) (s : Sheet) (small-tasks : (k : ℕ) → get_or tv k 0 < 65536) (small-links : (k : ℕ) → get_or lv k 0 < 65536) (small : l < 4294967296) (time : u < 65536)
    (h : read_form (value_bytes p l u c tv lv) ≡ value s) where
  abbrev tasks : List Task
  tasks = listed (length tv / 2) (task_value tv)

  abbrev links : List Link
  links = listed (length lv / 4) (link_value lv)

  behind-board : Going sheet_format (value s) (begun (made p l u c [] [])) (front_by u c) (task_bytes tasks ++ task_tail tv lv)
  unfolding read_form value_bytes task_value_bytes
  behind-board =
      let X : List ℕ = task_value_bytes tv lv in
      let g = subst (λ (a : Answer Sheet). Going sheet_format a fresh 0 (board_bytes p l u c ++ X)) h (starts sheet_format fresh (board_bytes p l u c ++ X)) in
      let o : Option ℕ = pick (not (both (leb 1 p) (leb p 16))) (some 6) none in
      let none_here : o ≡ none = unrefused board o g (opening p l u c X) in
      board-on (value s) p l u c X g (opening p l u c X ∙ ap (verdict sheet_format board) none_here) small time

  tasks-fit : (i : ℕ) → i < length tasks → TaskFits (get_or tasks i no_task)
  tasks-fit i k = rw (get_or-listed (length tv / 2) (task_value tv) i no_task (rw (length-listed (length tv / 2) (task_value tv)) at k)) record { work = small-tasks _; store = small-tasks _ }

  links-fit : (i : ℕ) → i < length links → LinkFits (get_or links i no_link)
  links-fit i k = rw (get_or-listed (length lv / 4) (link_value lv) i no_link (rw (length-listed (length lv / 4) (link_value lv)) at k)) record { cost = small-links _; bytes = small-links _ }

  behind-tasks : (e : ℕ) × Going sheet_format (value s) (begun (made p l u c tasks [])) e (task_tail tv lv)
  behind-tasks =
      tasks-on (value s) p l u c (task_tail tv lv) tasks tasks-fit (λ pre t post e q g v. unrefused task (task_fault (length pre) t.work) g v) tasks [] (front_by u c) refl behind-board

  even : length tv % 2 ≡ 0
  unfolding link_count
  even = by-test (ℕ_discrete (length tv % 2) 0)
    where
      by-test : Dec (length tv % 2 ≡ 0) → length tv % 2 ≡ 0
      by-test (yes z) = z
      by-test (no z) =
          let g = subst (λ (t : Bool). Going sheet_format (value s) (begun (made p l u c tasks [])) behind-tasks.0 (pick t (link_value_bytes lv) (0x54 ∷ []))) (ne_eqb (length tv % 2) 0 z) behind-tasks.1 in
          not-value (sym (refuses sheet_format g 1 (cut-task (made p l u c tasks []) refl)))

  behind-links : (e : ℕ) × Going sheet_format (value s) (begun (made p l u c tasks links)) e (link_tail lv)
  unfolding link_value_bytes
  behind-links =
      links-on (value s) p l u c (link_tail lv) tasks links links-fit
      (λ pre x post e q g v. unrefused link (link_fault (made p l u c tasks pre) x.source x.target) g v) links [] behind-tasks.0 refl
      (subst (λ (t : Bool). Going sheet_format (value s) (begun (made p l u c tasks [])) behind-tasks.0 (pick t (link_value_bytes lv) (0x54 ∷ []))) (eq-eqb (length tv % 2) 0 even) behind-tasks.1)

  by-four : length lv % 4 ≡ 0
  by-four = by-test (ℕ_discrete (length lv % 4) 0)
    where
      by-test : Dec (length lv % 4 ≡ 0) → length lv % 4 ≡ 0
      by-test (yes z) = z
      by-test (no z) =
          let g = subst (λ (t : Bool). Going sheet_format (value s) (begun (made p l u c tasks links)) behind-links.0 (pick t (0x51 ∷ []) (0x45 ∷ []))) (ne_eqb (length lv % 4) 0 z) behind-links.1 in
          not-value (sym (refuses sheet_format g 1 (cut-link (made p l u c tasks links))))

  same-sheet : s ≡ sheet_of_values p l u c tv lv
  unfolding sheet_of_values
  same-sheet =
      let g = subst (λ (t : Bool). Going sheet_format (value s) (begun (made p l u c tasks links)) behind-links.0 (pick t (0x51 ∷ []) (0x45 ∷ []))) (eq-eqb (length lv % 4) 0 by-four) behind-links.1 in
      sym (ended-value (made p l u c tasks links) s behind-links.0 [] (sym (ends sheet_format g end refl (at-end (made p l u c tasks links))))).1

  -- what is read from the bytes of given values is their sheet
  pub values-again : (s ≡ sheet_of_values p l u c tv lv) × (sheet_bytes s ≡ value_bytes p l u c tv lv) × (length tv % 2 ≡ 0) × (length lv % 4 ≡ 0)
  values-again = (same-sheet, ap sheet_bytes same-sheet ∙ sym (values-bytes p l u c tv lv even by-four), even, by-four)

  -- it is proper, and so the links of the values name their ends by a byte
  pub values-proper : Proper (sheet_of_values p l u c tv lv)
  unfolding sheet_of_values task_count link_count
  values-proper = proper (sheet_of_values p l u c tv lv) (read-shaped (value_bytes p l u c tv lv) (sheet_of_values p l u c tv lv) (h ∙ ap value same-sheet)) small time tasks-fit links-fit

  pub values-narrow : (j : ℕ) → j < length lv / 4 → ((link_value lv j).source < 256) × ((link_value lv j).target < 256)
  unfolding sheet_of_values link_count source_of target_of
  values-narrow j k =
      let r = values-proper.ranged in
      let at : get_or links j no_link ≡ link_value lv j = get_or-listed (length lv / 4) (link_value lv) j no_link k in
      let below : j < length links = rw (length-listed (length lv / 4) (link_value lv)) k in (
        omega (arith, ap (λ (x : Link). x.source) at, r.source j below, r.few_tasks),
        omega (arith, ap (λ (x : Link). x.target) at, r.target j below, r.few_tasks),
      )

-- a proper sheet is read back from its bytes
module _ (s : Sheet) (h : Proper s) where
  abbrev whole : Answer Sheet
  whole = read_form (sheet_bytes s)

  abbrev links_on : List ℕ
  links_on = link_bytes s.links ++ 0x51 ∷ []

  from-board : Going sheet_format whole (begun (made s.processors s.limit s.unpacking s.cube [] [])) (front_of s) (task_bytes s.tasks ++ links_on)
  unfolding read_form sheet_bytes
  from-board =
      let X : List ℕ = task_bytes s.tasks ++ links_on in
      let j : judge sheet_format fresh (board_bytes s.processors s.limit s.unpacking s.cube ++ X) ≡ go board =
      opening s.processors s.limit s.unpacking s.cube X ∙ rw (le-leb 1 s.processors h.some_processor, le-leb s.processors 16 h.ranged.few_processors) in
      board-on whole s.processors s.limit s.unpacking s.cube X (starts sheet_format fresh (board_bytes s.processors s.limit s.unpacking s.cube ++ X)) j h.limit h.ranged.unpacks

  task-clear : TaskClear whole s.processors s.limit s.unpacking s.cube s.tasks links_on
  unfolding task_fault task_count work_of
  task-clear pre t post e q g v =
      let at = behind pre t post s.tasks no_task q in
      let some_work : 1 ≤ t.work = subst (λ (x : Task). 1 ≤ x.work) at.1 (h.some_work (length pre) at.0) in
      rw (lt-leb 256 (length pre) (omega (arith, at.0, h.ranged.few_tasks)), ne_eqb t.work 0 (λ z. omega arith))

  link-clear : LinkClear whole s.processors s.limit s.unpacking s.cube s.tasks s.links (0x51 ∷ [])
  unfolding link_fault task_count link_count joins joins_by source_of target_of
  link-clear pre x post e q g v =
      let at = behind pre x post s.links no_link q in
      let source : x.source < length s.tasks = subst (λ (y : Link). y.source < length s.tasks) at.1 (h.ranged.source (length pre) at.0) in
      let target : x.target < length s.tasks = subst (λ (y : Link). y.target < length s.tasks) at.1 (h.ranged.target (length pre) at.0) in
      let fresh-pair : any (length pre) (λ i. both (eqb (get_or pre i no_link).source x.source) (eqb (get_or pre i no_link).target x.target)) ≡ false =
      none_any (length pre) (λ i. both (eqb (get_or pre i no_link).source x.source) (eqb (get_or pre i no_link).target x.target)) (λ i k. other i k _ refl) in
      rw (
        lt-leb 1024 (length pre) (omega (arith, at.0, h.ranged.few_links)),
        lt-leb (length s.tasks) x.source source,
        lt-leb (length s.tasks) x.target target,
        fresh-pair,
      )
    where
      other : (i : ℕ) → i < length pre → (b : Bool) → both (eqb (get_or pre i no_link).source x.source) (eqb (get_or pre i no_link).target x.target) ≡ b
          → both (eqb (get_or pre i no_link).source x.source) (eqb (get_or pre i no_link).target x.target) ≡ false
      other i k false r = r
      other i k true r =
          let at = behind pre x post s.links no_link q in
          let parts = both-parts _ _ r in
          let here : get_or s.links i no_link ≡ get_or pre i no_link = ap (λ (ls : List Link). get_or ls i no_link) (sym q) ∙ get_or-append pre (x ∷ post) no_link i k in
          let same : i ≡ length pre =
          h.single i (length pre) (omega (arith, at.0)) at.0
          (ap (λ (y : Link). y.source) here ∙ eqb-true _ _ parts.0 ∙ ap (λ (y : Link). y.source) (sym at.1))
          (ap (λ (y : Link). y.target) here ∙ eqb-true _ _ parts.1 ∙ ap (λ (y : Link). y.target) (sym at.1)) in
          absurd (omega arith)

  pub back-again : read_form (sheet_bytes s) ≡ value s
  unfolding ended task_count link_count work_of store_of cost_of bytes_of
  back-again =
      let t = tasks-on whole s.processors s.limit s.unpacking s.cube links_on s.tasks (λ i k. record { work = h.ranged.works i k; store = h.ranged.stores i k }) task-clear s.tasks [] (front_of s) refl from-board in
      let l = links-on whole s.processors s.limit s.unpacking s.cube (0x51 ∷ []) s.tasks s.links (λ i k. record { cost = h.ranged.costs i k; bytes = h.ranged.sizes i k }) link-clear s.links [] t.0 refl t.1 in
      ends sheet_format l.1 end refl (at-end s)
