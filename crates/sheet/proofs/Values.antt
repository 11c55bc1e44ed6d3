-- A sheet and its values: the sheet of a sheet's values is that sheet, and the values of the sheet of given values are those values.
use Prim.Native.Nat.{ℕ, zero, suc, ◌+◌, ◌*◌, ◌/◌, ◌%◌, ◌≤◌, ◌<◌}
use native.Mathlib.Omega.{arith}
use mathlib.Core.Path.{◌≡◌, refl, sym, ap, ap₂, ◌∙◌}
use mathlib.Core.Bool.{Bool}
use mathlib.Core.List.{List, [], ◌∷◌, ◌++◌, append_assoc, append-nil}
use lib.ListN.{length, get_or, take, drop}
use lib.Seq.{take_all, take-add, drop-cons, ext_get_or}
use Rattle.folds.specs.Folds.{listed}
use Rattle.folds.proofs.Lists.{length-listed, get_or-listed}
use Rattle.sheet.specs.Sheet.{Sheet, Task, Link, no_task, no_link}
use Rattle.sheet.specs.Writing.{task_value, link_value, sheet_of_values, task_values, link_values}

-- a list is that of its elements
listed-all : {X : Type 0} (xs : List X) (f : ℕ → X) (d : X) (n : ℕ) → n ≡ length xs → ((i : ℕ) → i < length xs → f i ≡ get_or xs i d) → listed n f ≡ xs
listed-all xs f d n e h =
    ext_get_or d (listed n f) xs (length-listed n f ∙ e)
    (λ i l.
    let k : i < n = omega (arith, length-listed n f) in
    get_or-listed n f i d k ∙ h i (omega arith))

-- records of w values each: the values of n records of v are its first w * n
module _ {X : Type 0} (w : ℕ) (each : X → List ℕ) (values : List X → List ℕ) (none : values [] ≡ []) (more : (x : X) (xs : List X) → values (x ∷ xs) ≡ each x ++ values xs) where
  values-append : (xs ys : List X) → values (xs ++ ys) ≡ values xs ++ values ys
  values-append [] ys = ap (λ (l : List ℕ). l ++ values ys) (sym none)
  values-append (x ∷ xs) ys =
      more x (xs ++ ys) ∙ ap (λ (l : List ℕ). each x ++ l) (values-append xs ys) ∙ sym (append_assoc (each x) (values xs) (values ys))
      ∙ ap (λ (l : List ℕ). l ++ values ys) (sym (more x xs))

  values_listed : (v : List ℕ) (f : ℕ → X) (n : ℕ) → ((i : ℕ) → i < n → each (f i) ≡ take w (drop (w * i) v)) → values (listed n f) ≡ take (w * n) v
  unfolding listed
  values_listed v f zero h = none ∙ ap (λ (k : ℕ). take k v) {x = 0} {y = w * 0} (omega arith)
  values_listed v f (suc n) h =
      let one : values (f n ∷ []) ≡ take w (drop (w * n) v) = more (f n) [] ∙ ap (λ (l : List ℕ). each (f n) ++ l) none ∙ append-nil (each (f n)) ∙ h n (omega arith) in
      let e : w * n + w ≡ w * suc n = omega arith in
      values-append (listed n f) (f n ∷ []) ∙ ap₂ (λ (a b : List ℕ). a ++ b) (values_listed v f n (λ i l. h i (omega arith))) one
      ∙ sym (take-add (w * n) w v) ∙ ap (λ (k : ℕ). take k v) e

-- tasks: two values each
task-at : (ts : List Task) (i : ℕ) → i < length ts → task_value (task_values ts) i ≡ get_or ts i no_task
task-at [] i h = absurd (omega arith)
task-at (t ∷ ts) zero h = refl
task-at (t ∷ ts) (suc i) h =
    let v : List ℕ = t.work ∷ t.store ∷ task_values ts in
    let a : 2 * suc i ≡ suc (suc (2 * i)) = omega arith in
    let b : 2 * suc i + 1 ≡ suc (suc (2 * i + 1)) = omega arith in
    ap₂ {C = Task} (λ (x y : ℕ). record { work = get_or v x 0; store = get_or v y 0 }) a b ∙ task-at ts i (omega arith)

task-row : (v : List ℕ) (i : ℕ) → 2 * i + 2 ≤ length v → (task_value v i).work ∷ (task_value v i).store ∷ [] ≡ take 2 (drop (2 * i) v)
task-row v i h =
    let a : suc (2 * i) ≡ 2 * i + 1 = omega arith in
    sym (ap (take 2) (drop-cons v (2 * i) 0 (omega arith) ∙ ap (λ (k : ℕ). get_or v (2 * i) 0 ∷ drop k v) a ∙ ap (λ (l : List ℕ). get_or v (2 * i) 0 ∷ l) (drop-cons v (2 * i + 1) 0 (omega arith))))

pub task-values-length : (ts : List Task) → length (task_values ts) ≡ 2 * length ts
task-values-length [] = refl
task-values-length (t ∷ ts) = omega (arith, task-values-length ts)

-- links: four values each
link_at : (ls : List Link) (i : ℕ) → i < length ls → link_value (link_values ls) i ≡ get_or ls i no_link
link_at [] i h = absurd (omega arith)
link_at (l ∷ ls) zero h = refl
link_at (l ∷ ls) (suc i) h =
    let v : List ℕ = link_values (l ∷ ls) in
    let at : (k : ℕ) → 4 * suc i + k ≡ suc (suc (suc (suc (4 * i + k)))) = λ k. omega arith in
    let a : 4 * suc i ≡ suc (suc (suc (suc (4 * i)))) = omega arith in
    ap₂ {C = Link} (λ (x y : ℕ). record { source = get_or v x 0; target = get_or v y 0; cost = get_or v (4 * suc i + 2) 0; bytes = get_or v (4 * suc i + 3) 0 }) a (at 1)
    ∙ ap₂ {C = Link} (λ (x y : ℕ). record { source = get_or (link_values ls) (4 * i) 0; target = get_or (link_values ls) (4 * i + 1) 0; cost = get_or v x 0; bytes = get_or v y 0 }) (at 2) (at 3)
    ∙ link_at ls i (omega arith)

link_row : (v : List ℕ) (i : ℕ) → 4 * i + 4 ≤ length v
    → (link_value v i).source ∷ (link_value v i).target ∷ (link_value v i).cost ∷ (link_value v i).bytes ∷ [] ≡ take 4 (drop (4 * i) v)
link_row v i h =
    let next : (k j : ℕ) → suc k ≡ j → k < length v → drop k v ≡ get_or v k 0 ∷ drop j v = λ k j e l. drop-cons v k 0 l ∙ ap (λ (n : ℕ). get_or v k 0 ∷ drop n v) e in
    let x : ℕ = get_or v (4 * i) 0 in
    let y : ℕ = get_or v (4 * i + 1) 0 in
    let z : ℕ = get_or v (4 * i + 2) 0 in
    sym (ap (take 4)
    (next (4 * i) (4 * i + 1) (omega arith) (omega arith)
    ∙ ap (λ (l : List ℕ). x ∷ l) (next (4 * i + 1) (4 * i + 2) (omega arith) (omega arith))
    ∙ ap (λ (l : List ℕ). x ∷ y ∷ l) (next (4 * i + 2) (4 * i + 3) (omega arith) (omega arith))
    ∙ ap (λ (l : List ℕ). x ∷ y ∷ z ∷ l) (next (4 * i + 3) (4 * i + 4) (omega arith) (omega arith))))

pub link-values-length : (ls : List Link) → length (link_values ls) ≡ 4 * length ls
link-values-length [] = refl
link-values-length (l ∷ ls) = omega (arith, link-values-length ls)

-- the sheet of a sheet's values
pub sheet-again : (s : Sheet) → sheet_of_values s.processors s.limit s.unpacking s.cube (task_values s.tasks) (link_values s.links) ≡ s
unfolding sheet_of_values
sheet-again s =
    ap₂ {C = Sheet} (λ (ts : List Task) (ls : List Link). record { processors = s.processors; limit = s.limit; unpacking = s.unpacking; cube = s.cube; tasks = ts; links = ls })
    (listed-all s.tasks (task_value (task_values s.tasks)) no_task (length (task_values s.tasks) / 2) (omega (arith, task-values-length s.tasks)) (task-at s.tasks))
    (listed-all s.links (link_value (link_values s.links)) no_link (length (link_values s.links) / 4) (omega (arith, link-values-length s.links)) (link_at s.links))

-- the values of the sheet of values
module _ (p l u : ℕ) (c : Bool) (tv lv : List ℕ) where
  pub task-values-again : length tv % 2 ≡ 0 → task_values (sheet_of_values p l u c tv lv).tasks ≡ tv
  unfolding sheet_of_values
  task-values-again e =
      values_listed 2 (λ (t : Task). t.work ∷ t.store ∷ []) task_values refl (λ t ts. refl) tv (task_value tv) (length tv / 2) (λ i h. task-row tv i (omega arith))
      ∙ take_all (2 * (length tv / 2)) tv (omega arith)

  pub link-values-again : length lv % 4 ≡ 0 → link_values (sheet_of_values p l u c tv lv).links ≡ lv
  unfolding sheet_of_values
  link-values-again e =
      values_listed 4 (λ (x : Link). x.source ∷ x.target ∷ x.cost ∷ x.bytes ∷ []) link_values refl (λ x xs. refl) lv (link_value lv) (length lv / 4) (λ i h. link_row lv i (omega arith))
      ∙ take_all (4 * (length lv / 4)) lv (omega arith)
