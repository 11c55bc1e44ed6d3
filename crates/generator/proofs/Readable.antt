-- The sheet of a seed is proper, so that its bytes are read as it; and each of its links leads to a later task.
use Rattle.std.proofs.Common.{◌≡◌, ℕ, zero, suc, ◌+◌, ◌*◌, ◌<◌, ◌≤◌, Bool, true, false, not, eqb, ltb, ◌⊎◌, List, [], ◌∷◌, ◌++◌, length, get_or, sym, refl, ap, ◌∙◌, subst, inl, inr, true≢false, mod-lt, arith, length-append, ltb-true, eq-eqb}
use borrow.Author.Tests.{not-true}
use lib.ListN.{get_or-append}
use lib.Seq.{get_or_at}
use Rattle.folds.specs.Folds.{both, listed}
use Rattle.folds.specs.Answers.{value}
use Rattle.folds.proofs.Tests.{below_suc, both-parts, parts-both}
use Rattle.folds.proofs.Laws.{any-each}
use Rattle.folds.proofs.Lists.{length-listed, get_or-listed}
use Rattle.sheet.specs.Sheet.{Sheet, Task, Link, no_task, no_link, task_count, link_count, source_of, target_of}
use Rattle.sheet.specs.Format.{joins, joins_by, read_form}
use Rattle.sheet.specs.Writing.{sheet_bytes}
use Rattle.sheet.proofs.Rounds.{Proper, TaskFits, LinkFits, Shaped, proper}
use Rattle.sheet_reader.proofs.Backs.{back-again}
use Rattle.generator.specs.Draw.{start_of, after, drawn}
use Rattle.generator.specs.Load.{task_behind, try_behind, task_at, try_at, is_new, tried, tasks_from, sheet_from}
use Rattle.generator.proofs.Fills.{tried_same, tried-new, few_links}
use Rattle.generator.proofs.Ranges.{Inside}

-- of a list and one more: each element is of the list, or the one
each_or : {X : Type 0} (Q : X → Type 0) (xs : List X) (x d : X) → ((i : ℕ) → i < length xs → Q (get_or xs i d)) → Q x → (i : ℕ) → i < length (xs ++ x ∷ []) → Q (get_or (xs ++ x ∷ []) i d)
each_or Q xs x d h q i l = split (below_suc (omega (arith, length-append xs (x ∷ []))))
  where
    split : (i < length xs) ⊎ (i ≡ length xs) → Q (get_or (xs ++ x ∷ []) i d)
    split (inl b) = subst Q (sym (get_or-append xs (x ∷ []) d i b)) (h i b)
    split (inr b) = subst Q (sym (get_or_at xs x [] d i (sym b))) q

-- a link of n tasks that leads to a later one, with numbers that are drawn
record Upward (n : ℕ) (l : Link) : Type 0 where
  later : l.source < l.target
  target : l.target < n
  fits : LinkFits l

-- no two links of a list have the same ends
abbrev Apart : List Link → Type 0
Apart ls = (i j : ℕ) → i < j → j < length ls → (get_or ls i no_link).source ≡ (get_or ls j no_link).source → (get_or ls i no_link).target ≡ (get_or ls j no_link).target → ⊥

-- what every try keeps
record Made (n : ℕ) (ls : List Link) : Type 0 where
  upward : (i : ℕ) → i < length ls → Upward n (get_or ls i no_link)
  apart : Apart ls

-- a new link
module _ (s : Sheet) (x : Link) (new : is_new s x ≡ true) where
  new-later : x.source < x.target
  unfolding is_new
  new-later = ltb-true x.source x.target (both-parts (ltb x.source x.target) (not (joins s x.source x.target)) new).0

  new-pair : (i : ℕ) → i < length s.links → both (eqb (get_or s.links i no_link).source x.source) (eqb (get_or s.links i no_link).target x.target) ≡ false
  unfolding is_new joins joins_by link_count source_of target_of
  new-pair = any-each (link_count s) (joins_by s x.source x.target) (not-true (joins s x.source x.target) (both-parts (ltb x.source x.target) (not (joins s x.source x.target)) new).1)

  apart_more : Apart s.links → Apart (s.links ++ x ∷ [])
  apart_more old i j l m p q = split (below_suc (omega (arith, length-append s.links (x ∷ []))))
    where
      ls : List Link
      ls = s.links

      at_i : i < length ls → get_or (ls ++ x ∷ []) i no_link ≡ get_or ls i no_link
      at_i = get_or-append ls (x ∷ []) no_link i

      same : (y : Link) → get_or (ls ++ x ∷ []) j no_link ≡ y → i < length ls → ((get_or ls i no_link).source ≡ y.source) × ((get_or ls i no_link).target ≡ y.target)
      same y e b =
          (ap (λ (z : Link). z.source) (sym (at_i b)) ∙ p ∙ ap (λ (z : Link). z.source) e, ap (λ (z : Link). z.target) (sym (at_i b)) ∙ q ∙ ap (λ (z : Link). z.target) e)

      split : (j < length ls) ⊎ (j ≡ length ls) → ⊥
      split (inl b) = let e = same (get_or ls j no_link) (get_or-append ls (x ∷ []) no_link j b) (omega arith) in old i j l b e.0 e.1
      split (inr b) =
          let k : i < length ls = omega arith in
          let e = same x (get_or_at ls x [] no_link j (sym b)) k in
          true≢false (sym (parts-both _ _ (eq-eqb _ _ e.0) (eq-eqb _ _ e.1)) ∙ new-pair i k)

-- the numbers of a try and of a task
try-target : (seed n j : ℕ) → 0 < n → (try_at seed n j).target < n
unfolding try_at try_behind
try-target seed n j h = mod-lt (drawn 2 (after (2 * n + 4 * j) (start_of seed))) h

try-fits : (seed n j : ℕ) → LinkFits (try_at seed n j)
unfolding try_at try_behind
try-fits seed n j = record { cost = omega arith; bytes = omega arith }

task-fits : (seed i : ℕ) → TaskFits (task_at seed i)
unfolding task_at task_behind
task-fits seed i = record { work = omega arith; store = omega arith }

some_work : (seed i : ℕ) → 1 ≤ (task_at seed i).work
unfolding task_at task_behind
some_work seed i = omega arith

-- one try more
made_more : (n : ℕ) (s : Sheet) (x : Link) → x.target < n → LinkFits x → Made n s.links → (b : Bool) → is_new s x ≡ b → Made n (tried s x).links
made_more n s x t f h false e = subst (λ (y : Sheet). Made n y.links) (sym (tried_same s x e)) h
made_more n s x t f h true e =
    subst (λ (y : Sheet). Made n y.links) (sym (tried-new s x e))
    record {
      upward = each_or (Upward n) s.links x no_link h.upward record { later = new-later s x e; target = t; fits = f };
      apart = apart_more s x e h.apart;
    }

module _ (seed n p l : ℕ) (some : 1 ≤ n) where
  made : (m : ℕ) → Made n (sheet_from seed n p l m).links
  unfolding sheet_from tasks_from
  made zero = record { upward = λ i h. absurd (omega arith); apart = λ i j h k. absurd (omega arith) }
  made (suc m) =
      let s = sheet_from seed n p l m in
      made_more n s (try_at seed n m) (try-target seed n m (omega arith)) (try-fits seed n m) (made m) (is_new s (try_at seed n m)) refl

  -- the rest of the sheet stays as it is with the tasks alone
  same-board : (m : ℕ) → ((sheet_from seed n p l m).processors ≡ p) × ((sheet_from seed n p l m).limit ≡ l) × ((sheet_from seed n p l m).tasks ≡ listed n (task_at seed)) × ((sheet_from seed n p l m).unpacking ≡ 0)
  unfolding sheet_from tasks_from
  same-board zero = (refl, refl, refl, refl)
  same-board (suc m) =
      let s = sheet_from seed n p l m in
      let b = same-board m in
      let k = kept s (try_at seed n m) (is_new s (try_at seed n m)) refl in
      (k.0 ∙ b.0, k.1 ∙ b.1, k.2 ∙ b.2, k.3 ∙ b.3)
    where
      kept : (s : Sheet) (x : Link) (b : Bool) → is_new s x ≡ b → ((tried s x).processors ≡ s.processors) × ((tried s x).limit ≡ s.limit) × ((tried s x).tasks ≡ s.tasks) × ((tried s x).unpacking ≡ s.unpacking)
      kept s x true e = let q = tried-new s x e in (ap (λ (y : Sheet). y.processors) q, ap (λ (y : Sheet). y.limit) q, ap (λ (y : Sheet). y.tasks) q, ap (λ (y : Sheet). y.unpacking) q)
      kept s x false e = let q = tried_same s x e in (ap (λ (y : Sheet). y.processors) q, ap (λ (y : Sheet). y.limit) q, ap (λ (y : Sheet). y.tasks) q, ap (λ (y : Sheet). y.unpacking) q)

module _ (seed n m p l : ℕ) (h : Inside seed n m p) where
  abbrev whole : Sheet
  whole = sheet_from seed n p l m

  task-is : (i : ℕ) → i < length whole.tasks → get_or whole.tasks i no_task ≡ task_at seed i
  task-is i k =
      let e = (same-board seed n p l h.some_task m).2 in
      ap (λ (ts : List Task). get_or ts i no_task) e ∙ get_or-listed n (task_at seed) i no_task (omega (arith, ap length e, length-listed n (task_at seed)))

  pub tasks-made : task_count whole ≡ n
  unfolding task_count
  tasks-made = ap length (same-board seed n p l h.some_task m).2 ∙ length-listed n (task_at seed)

  shaped : Shaped whole
  unfolding task_count link_count
  shaped =
      let b = same-board seed n p l h.some_task m in
      let g = made seed n p l h.some_task m in
      record {
        few_tasks = omega (arith, tasks-made, h.few_tasks);
        few_links = omega (arith, few_links seed n p l m, h.few_tries);
        few_processors = omega (arith, b.0, h.few_processors);
        some_processor = omega (arith, b.0, h.some_processor);
        works = λ i k. subst (λ (t : Task). 1 ≤ t.work) (sym (task-is i k)) (some_work seed i);
        ends =
            λ i k.
            let u = g.upward i k in
            record { source = omega (arith, u.later, u.target, tasks-made); target = omega (arith, u.target, tasks-made) };
        apart = g.apart;
      }

  -- from a lower to a higher number
  pub later-made : (i : ℕ) → i < link_count whole → source_of whole i < target_of whole i
  unfolding link_count source_of target_of
  later-made i k = ((made seed n p l h.some_task m).upward i k).later

  pub proper-made : l < 4294967296 → Proper whole
  unfolding task_count link_count
  proper-made small =
      let b = same-board seed n p l h.some_task m in
      proper whole shaped (omega (arith, b.1)) (omega (arith, b.3)) (λ i k. subst TaskFits (sym (task-is i k)) (task-fits seed i))
      (λ i k. ((made seed n p l h.some_task m).upward i k).fits)

  pub form-again : l < 4294967296 → read_form (sheet_bytes whole) ≡ value whole
  form-again small = back-again whole (proper-made small)
