-- What the words of the tables say of the sheet in them.
use Prim.Native.Nat.{ℕ, ◌+◌, ◌≤◌, ◌<◌}
use mathlib.Core.Path.{◌≡◌, ap, ap₂, sym, ◌∙◌}
use mathlib.Core.List.{List}
use native.Mathlib.Omega.{arith}
use lib.ListN.{length, get_or}
use lib.Dec.{eqb}
use Rattle.workspace.specs.Area.{links_at, pairs_at, sizes_at, tasks_at, unpacking_at, cube_at}
use Rattle.folds.specs.Folds.{listed}
use Rattle.folds.proofs.Lists.{length-listed, get_or-listed, listed-cong}
use Rattle.sheet.specs.Sheet.{Task, Link, no_task, no_link, task_count, link_count, work_of, store_of, source_of, target_of, cost_of, bytes_of}
use Rattle.sheet.specs.Tables.{task_of_word, link_of_words, task_in, link_in, sheet_in, Loaded, Ranged}

module _ (w : List ℕ) where
  pub tasks-in : task_count (sheet_in w) ≡ get_or w 0 0
  unfolding sheet_in task_count
  tasks-in = length-listed _ _

  pub links-in : link_count (sheet_in w) ≡ get_or w 1 0
  unfolding sheet_in link_count
  links-in = length-listed _ _

  pub task-in : (t : ℕ) → t < task_count (sheet_in w) → get_or (sheet_in w).tasks t no_task ≡ task_in w t
  unfolding sheet_in
  task-in t h = get_or-listed _ (task_in w) t no_task (rw tasks-in at h)

  pub link-in : (l : ℕ) → l < link_count (sheet_in w) → get_or (sheet_in w).links l no_link ≡ link_in w l
  unfolding sheet_in
  link-in l h = get_or-listed _ (link_in w) l no_link (rw links-in at h)

  pub work_in : (t : ℕ) → t < task_count (sheet_in w) → work_of (sheet_in w) t ≡ (task_in w t).work
  unfolding work_of
  work_in t h = ap (λ (x : Task). x.work) (task-in t h)

  pub store_in_lem : (t : ℕ) → t < task_count (sheet_in w) → store_of (sheet_in w) t ≡ (task_in w t).store
  unfolding store_of
  store_in_lem t h = ap (λ (x : Task). x.store) (task-in t h)

  pub source_in : (l : ℕ) → l < link_count (sheet_in w) → source_of (sheet_in w) l ≡ (link_in w l).source
  unfolding source_of
  source_in l h = ap (λ (x : Link). x.source) (link-in l h)

  pub target-in : (l : ℕ) → l < link_count (sheet_in w) → target_of (sheet_in w) l ≡ (link_in w l).target
  unfolding target_of
  target-in l h = ap (λ (x : Link). x.target) (link-in l h)

  pub cost-in : (l : ℕ) → l < link_count (sheet_in w) → cost_of (sheet_in w) l ≡ (link_in w l).cost
  unfolding cost_of
  cost-in l h = ap (λ (x : Link). x.cost) (link-in l h)

  pub bytes-in : (l : ℕ) → l < link_count (sheet_in w) → bytes_of (sheet_in w) l ≡ (link_in w l).bytes
  unfolding bytes_of
  bytes-in l h = ap (λ (x : Link). x.bytes) (link-in l h)

-- an index of a table that holds a sheet
pub task-below : (w : List ℕ) (t : ℕ) → t < task_count (sheet_in w) → t < get_or w 0 0
task-below w t h = omega (arith, tasks-in w)

pub link-below : (w : List ℕ) (l : ℕ) → l < link_count (sheet_in w) → l < get_or w 1 0
link-below w l h = omega (arith, links-in w)

pub task-index : (w : List ℕ) (t : ℕ) → Loaded w → t < task_count (sheet_in w) → t < 256
task-index w t h l = omega (arith, tasks-in w, h.tasks)

pub link-index : (w : List ℕ) (l : ℕ) → Loaded w → l < link_count (sheet_in w) → l < 1024
link-index w l h k = omega (arith, links-in w, h.links)

-- a word r that is x, where the field y is x too
pub field-small : {r x y : ℕ} → r ≡ x → y ≡ x → x < 65536 → (r ≡ y) × (r ≤ 65535)
field-small p q h = (p ∙ sym q, omega arith)

pub field_below : {r x y b c : ℕ} → r ≡ x → y ≡ x → x < b → c ≡ b → (r ≡ y) × (r < c)
field_below p q h e = (p ∙ sym q, omega arith)

pub field-most : {r x y b : ℕ} → r ≡ x → y ≡ x → x ≤ b → (r ≡ y) × (r ≤ b)
field-most p q h = (p ∙ sym q, omega arith)

-- the sheet in the tables is ranged
pub ranged : (w : List ℕ) → Loaded w → Ranged (sheet_in w)
unfolding sheet_in
ranged w h =
    record {
      few_tasks = rw (tasks-in w) h.tasks;
      few_links = rw (links-in w) h.links;
      few_processors = h.processors;
      unpacks = h.unpacks;
      works = λ t l. rw (work_in w t l) (omega arith);
      stores = λ t l. rw (store_in_lem w t l) (h.stores t (rw (tasks-in w) at l));
      source = λ l k. rw (source_in w l k, tasks-in w) (h.source l (rw (links-in w) at k));
      target = λ l k. rw (target-in w l k, tasks-in w) (h.target l (rw (links-in w) at k));
      costs = λ l k. rw (cost-in w l k) (h.costs l (rw (links-in w) at k));
      sizes = λ l k. rw (bytes-in w l k) (h.sizes l (rw (links-in w) at k));
    }

-- an area up to its levels is all the sheet
module _ (w w' : List ℕ) (same : (i : ℕ) → i < pairs_at → get_or w' i 0 ≡ get_or w i 0) where
  pub task-frame : (t : ℕ) → t < 256 → task_in w' t ≡ task_in w t
  task-frame t h = ap task_of_word (same (tasks_at + t) (omega arith))

  pub link-frame : (l : ℕ) → l < 1024 → link_in w' l ≡ link_in w l
  link-frame l h = ap₂ link_of_words (same (links_at + l) (omega arith)) (same (sizes_at + l) (omega arith))

  pub sheet-frame : get_or w 0 0 ≤ 256 → get_or w 1 0 ≤ 1024 → sheet_in w' ≡ sheet_in w
  unfolding sheet_in
  sheet-frame few few' =
      let tasks : listed (get_or w' 0 0) (task_in w') ≡ listed (get_or w 0 0) (task_in w) =
      ap (λ (n : ℕ). listed n (task_in w')) (same 0 (omega arith)) ∙
      listed-cong (get_or w 0 0) (task_in w') (task_in w) (λ i h. task-frame i (omega arith)) in
      let links : listed (get_or w' 1 0) (link_in w') ≡ listed (get_or w 1 0) (link_in w) =
      ap (λ (n : ℕ). listed n (link_in w')) (same 1 (omega arith)) ∙
      listed-cong (get_or w 1 0) (link_in w') (link_in w) (λ i h. link-frame i (omega arith)) in
      λ x. record { processors = same 2 (omega arith) x; limit = same 3 (omega arith) x; unpacking = same unpacking_at (omega arith) x; cube = eqb (same cube_at (omega arith) x) 1; tasks = tasks x; links = links x }

  pub loaded-frame : Loaded w → length w' ≡ length w → Loaded w'
  loaded-frame h e =
      let n : get_or w' 0 0 ≡ get_or w 0 0 = same 0 (omega arith) in
      let m : get_or w' 1 0 ≡ get_or w 1 0 = same 1 (omega arith) in
      let few : get_or w 0 0 ≤ 256 = h.tasks in
      let few' : get_or w 1 0 ≤ 1024 = h.links in
      record {
        long = omega (arith, h.long);
        tasks = omega arith;
        links = omega arith;
        processors = omega (arith, same 2 (omega arith), h.processors);
        unpacks = omega (arith, same unpacking_at (omega arith), h.unpacks);
        stores = λ t l. rw (same (tasks_at + t) (omega arith)) (h.stores t (omega arith));
        source = λ l k. rw (same (links_at + l) (omega arith), n) (h.source l (omega arith));
        target = λ l k. rw (same (links_at + l) (omega arith), n) (h.target l (omega arith));
        costs = λ l k. rw (same (links_at + l) (omega arith)) (h.costs l (omega arith));
        sizes = λ l k. rw (same (sizes_at + l) (omega arith)) (h.sizes l (omega arith));
      }

-- the tables up to their counts are the sheet's lists
pub all-tasks : (w : List ℕ) (i : ℕ) → i ≡ task_count (sheet_in w) → listed i (task_in w) ≡ (sheet_in w).tasks
unfolding sheet_in
all-tasks w i e = ap (λ (k : ℕ). listed k (task_in w)) (e ∙ tasks-in w)

pub all-links : (w : List ℕ) (l : ℕ) → l ≡ link_count (sheet_in w) → listed l (link_in w) ≡ (sheet_in w).links
unfolding sheet_in
all-links w l e = ap (λ (k : ℕ). listed k (link_in w)) (e ∙ links-in w)
