-- The numbers of a sheet lie in its bytes where `Fields` says.
use Prim.Native.Nat.{ℕ, zero, suc, ◌+◌, ◌*◌, ◌≤◌, ◌<◌}
use mathlib.Core.Path.{◌≡◌, refl, ◌∙◌, subst}
use mathlib.Core.List.{List, [], ◌∷◌, ◌++◌}
use native.Mathlib.Omega.{arith}
use lib.ListN.{length, get_or, length-append}
use lib.Seq.{get_or-append-add}
use Rattle.numbers.specs.Number.{number_at, number_bytes}
use Rattle.numbers.proofs.Laws.{number_at-append, number-of-bytes}
use Rattle.sheet.specs.Sheet.{Sheet, Task, Link, no_task, no_link, task_count, link_count, work_of, store_of, source_of, target_of, cost_of, bytes_of}
use Rattle.folds.specs.Answers.{value}
use Rattle.sheet.specs.Format.{read_form}
use Rattle.sheet.specs.Sizes.{link_size, front_of, middle_of}
use Rattle.sheet.specs.Tables.{Ranged}
use Rattle.sheet.specs.Writing.{board_bytes, task_command, link_command, task_bytes, link_bytes, sheet_bytes}
use Rattle.sheet.proofs.Fronts.{board-length}
use Rattle.sheet.proofs.Rounds.{bytes-again, read-ranged, task-bytes-length}
use Rattle.admission.specs.Fields.{work_at, store_at, source_at, target_at, cost_at, bytes_at, Fields}

-- a number behind some bytes, and one byte
module _ (p b : List ℕ) (i j : ℕ) (e : j ≡ length p + i) where
  behind : number_at 2 (p ++ b) j ≡ number_at 2 b i
  behind = rw e (number_at-append 2 p b i)

  byte-behind : get_or (p ++ b) j 0 ≡ get_or b i 0
  byte-behind = rw e (get_or-append-add p b i 0)

number_behind : (p r : List ℕ) (x j : ℕ) → j ≡ length p + 0 → x < 65536 → number_at 2 (p ++ (number_bytes 2 x ++ r)) j ≡ x
number_behind p r x j e h = behind p (number_bytes 2 x ++ r) 0 j e ∙ number-of-bytes 2 x r h

-- task t
work-at : (ts : List Task) (r : List ℕ) (t : ℕ) → t < length ts → (get_or ts t no_task).work < 65536 → number_at 2 (task_bytes ts ++ r) (1 + 5 * t) ≡ (get_or ts t no_task).work
work-at [] r t h l = absurd (omega arith)
work-at (x ∷ ts) r zero h l = number_behind (0x54 ∷ []) (number_bytes 2 x.store ++ (task_bytes ts ++ r)) x.work (1 + 5 * 0) (omega arith) l
work-at (x ∷ ts) r (suc t) h l = behind (task_command x) (task_bytes ts ++ r) (1 + 5 * t) (1 + 5 * suc t) (omega arith) ∙ work-at ts r t (omega arith) l

store_at_lem : (ts : List Task) (r : List ℕ) (t : ℕ) → t < length ts → (get_or ts t no_task).store < 65536 → number_at 2 (task_bytes ts ++ r) (3 + 5 * t) ≡ (get_or ts t no_task).store
store_at_lem [] r t h l = absurd (omega arith)
store_at_lem (x ∷ ts) r zero h l = number_behind (0x54 ∷ number_bytes 2 x.work) (task_bytes ts ++ r) x.store (3 + 5 * 0) (omega arith) l
store_at_lem (x ∷ ts) r (suc t) h l = behind (task_command x) (task_bytes ts ++ r) (3 + 5 * t) (3 + 5 * suc t) (omega arith) ∙ store_at_lem ts r t (omega arith) l

-- link l
source-at : (ls : List Link) (r : List ℕ) (l : ℕ) → l < length ls → get_or (link_bytes ls ++ r) (1 + 7 * l) 0 ≡ (get_or ls l no_link).source
source-at [] r l h = absurd (omega arith)
source-at (x ∷ ls) r zero h = refl
source-at (x ∷ ls) r (suc l) h = byte-behind (link_command x) (link_bytes ls ++ r) (1 + 7 * l) (1 + 7 * suc l) (omega arith) ∙ source-at ls r l (omega arith)

target_at_lem : (ls : List Link) (r : List ℕ) (l : ℕ) → l < length ls → get_or (link_bytes ls ++ r) (2 + 7 * l) 0 ≡ (get_or ls l no_link).target
target_at_lem [] r l h = absurd (omega arith)
target_at_lem (x ∷ ls) r zero h = refl
target_at_lem (x ∷ ls) r (suc l) h = byte-behind (link_command x) (link_bytes ls ++ r) (2 + 7 * l) (2 + 7 * suc l) (omega arith) ∙ target_at_lem ls r l (omega arith)

cost-at : (ls : List Link) (r : List ℕ) (l : ℕ) → l < length ls → (get_or ls l no_link).cost < 65536 → number_at 2 (link_bytes ls ++ r) (3 + 7 * l) ≡ (get_or ls l no_link).cost
cost-at [] r l h g = absurd (omega arith)
cost-at (x ∷ ls) r zero h g = number_behind (0x45 ∷ x.source ∷ x.target ∷ []) (number_bytes 2 x.bytes ++ (link_bytes ls ++ r)) x.cost (3 + 7 * 0) (omega arith) g
cost-at (x ∷ ls) r (suc l) h g = behind (link_command x) (link_bytes ls ++ r) (3 + 7 * l) (3 + 7 * suc l) (omega arith) ∙ cost-at ls r l (omega arith) g

bytes-at : (ls : List Link) (r : List ℕ) (l : ℕ) → l < length ls → (get_or ls l no_link).bytes < 65536 → number_at 2 (link_bytes ls ++ r) (5 + 7 * l) ≡ (get_or ls l no_link).bytes
bytes-at [] r l h g = absurd (omega arith)
bytes-at (x ∷ ls) r zero h g = number_behind (0x45 ∷ x.source ∷ x.target ∷ number_bytes 2 x.cost) (link_bytes ls ++ r) x.bytes (5 + 7 * 0) (omega arith) g
bytes-at (x ∷ ls) r (suc l) h g = behind (link_command x) (link_bytes ls ++ r) (5 + 7 * l) (5 + 7 * suc l) (omega arith) ∙ bytes-at ls r l (omega arith) g

link-bytes-length : (ls : List Link) → length (link_bytes ls) ≡ 7 * length ls
link-bytes-length [] = refl
link-bytes-length (l ∷ ls) = omega (arith, link-bytes-length ls)

module _ (s : Sheet) where
  abbrev front : List ℕ
  front = board_bytes s.processors s.limit s.unpacking s.cube

  front_long : length front ≡ front_of s
  front_long = board-length s.processors s.limit s.unpacking s.cube

  abbrev tail : List ℕ
  tail = link_bytes s.links ++ 0x51 ∷ []

  -- past the board, and past the tasks
  past-board : (i j : ℕ) → j ≡ front_of s + i → number_at 2 (sheet_bytes s) j ≡ number_at 2 (task_bytes s.tasks ++ tail) i
  unfolding sheet_bytes
  past-board i j e = behind front (task_bytes s.tasks ++ tail) i j (omega (arith, front_long))

  past-tasks : (i j : ℕ) → j ≡ middle_of s + i → number_at 2 (sheet_bytes s) j ≡ number_at 2 tail i
  unfolding task_count
  past-tasks i j e =
      past-board (length (task_bytes s.tasks) + i) j (omega (arith, task-bytes-length s.tasks)) ∙
      behind (task_bytes s.tasks) tail i (length (task_bytes s.tasks) + i) refl

  byte-past-tasks : (i j : ℕ) → j ≡ middle_of s + i → get_or (sheet_bytes s) j 0 ≡ get_or tail i 0
  unfolding sheet_bytes task_count
  byte-past-tasks i j e =
      byte-behind front (task_bytes s.tasks ++ tail) (length (task_bytes s.tasks) + i) j (omega (arith, front_long, task-bytes-length s.tasks)) ∙
      byte-behind (task_bytes s.tasks) tail i (length (task_bytes s.tasks) + i) refl

  -- the links end inside
  sheet-long : middle_of s + link_size * link_count s ≤ length (sheet_bytes s)
  unfolding sheet_bytes task_count link_count
  sheet-long =
      omega (
        arith,
        front_long,
        length-append front (task_bytes s.tasks ++ tail),
        length-append (task_bytes s.tasks) tail,
        length-append (link_bytes s.links) (0x51 ∷ []),
        task-bytes-length s.tasks,
        link-bytes-length s.links,
      )

  pub written-fields : Ranged s → Fields s (sheet_bytes s) (front_of s) (middle_of s)
  unfolding task_count link_count work_of store_of source_of target_of cost_of bytes_of
  written-fields h =
      record {
        behind = refl;
        inside = sheet-long;
        work = λ t l. past-board (1 + 5 * t) (work_at (front_of s) t) (omega arith) ∙ work-at s.tasks tail t l (h.works t l);
        store = λ t l. past-board (3 + 5 * t) (store_at (front_of s) t) (omega arith) ∙ store_at_lem s.tasks tail t l (h.stores t l);
        source = λ i l. byte-past-tasks (1 + 7 * i) (source_at (middle_of s) i) (omega arith) ∙ source-at s.links (0x51 ∷ []) i l;
        target = λ i l. byte-past-tasks (2 + 7 * i) (target_at (middle_of s) i) (omega arith) ∙ target_at_lem s.links (0x51 ∷ []) i l;
        cost = λ i l. past-tasks (3 + 7 * i) (cost_at (middle_of s) i) (omega arith) ∙ cost-at s.links (0x51 ∷ []) i l (h.costs i l);
        bytes = λ i l. past-tasks (5 + 7 * i) (bytes_at (middle_of s) i) (omega arith) ∙ bytes-at s.links (0x51 ∷ []) i l (h.sizes i l);
      }

-- so they do in any bytes that a sheet was read from
pub fields_read : (b : List ℕ) (s : Sheet) → ((k : ℕ) → get_or b k 0 < 256) → read_form b ≡ value s → Fields s b (front_of s) (middle_of s)
fields_read b s small h =
    subst (λ (x : List ℕ). Fields s x (front_of s) (middle_of s)) (bytes-again b s small h) (written-fields s (read-ranged b s small h).ranged)
