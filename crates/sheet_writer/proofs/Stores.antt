-- Records written one behind the other are their bytes.
use Prim.Native.Nat.{ℕ, zero, suc, ◌+◌, ◌*◌, ◌/◌, ◌%◌, ◌≤◌, ◌<◌, zero-le}
use mathlib.Core.Path.{◌≡◌, refl, sym, ap, ap₂, ◌∙◌}
use mathlib.Core.Bool.{Bool, true, false}
use mathlib.Core.List.{List, [], ◌∷◌, ◌++◌, append_assoc, append-nil}
use native.Mathlib.Nat.{suc-mul, zero-add, add-zero}
use native.Mathlib.Omega.{arith}
use lib.ListN.{length, set, length-set, length-append, take-append-drop}
use Rattle.numbers.specs.Number.{number_bytes, stored}
use Rattle.numbers.proofs.Laws.{stored-then, stored-none, stored_one}
use mathlib.Core.Logic.{◌≢◌}
use borrow.Author.Tests.{eq-eqb, ne_eqb}
use Rattle.folds.specs.Folds.{listed, pick}
use Rattle.folds.proofs.Loops.{listed-zero, listed-one}
use Rattle.sheet.specs.Sheet.{Task, Link}
use Rattle.sheet.specs.Sizes.{board_size, cube_size, task_size, link_size, front_by}
use Rattle.sheet.proofs.Fronts.{board-length}
use Rattle.sheet.specs.Writing.{unpacking_bytes, cube_bytes, board_bytes, task_command, link_command, task_bytes, link_bytes, task_value, link_value, link_value_bytes, task_value_bytes, value_bytes, task_values, link_values}

-- records of one width: the bytes of one, and of a list of them
module _ {X : Type 0} (size : ℕ) (one : X → List ℕ) (all : List X → List ℕ) (none : all [] ≡ [])
    (more : (xs : List X) (x : X) → all (xs ++ (x ∷ [])) ≡ all xs ++ one x) (wide : (x : X) → length (one x) ≡ size) (f : ℕ → X) where
  pub length-all : (n : ℕ) → length (all (listed n f)) ≡ n * size
  unfolding listed
  length-all zero = rw none (omega arith)
  length-all (suc n) = rw (more, length-append, length-all n, wide) (sym (suc-mul n size))

  pub all_none : (b : List ℕ) → b ≡ stored b 0 (all (listed 0 f))
  all_none b = rw (listed-zero f, none) (stored-none b)

  pub all-next : (b m r : List ℕ) (i at : ℕ) → m ≡ stored b 0 (all (listed i f)) → r ≡ stored m at (one (f i)) → at ≡ i * size → r ≡ stored b 0 (all (listed (i + 1) f))
  all-next b m r i at p q e =
      stored-then b m r 0 at (all (listed i f)) (one (f i)) p q (e ∙ sym (zero-add _ ∙ length-all i)) zero-le
      ∙ rw (listed-one i f, more)

pub tasks-more : (xs : List Task) (t : Task) → task_bytes (xs ++ (t ∷ [])) ≡ task_bytes xs ++ task_command t
tasks-more [] t = refl
tasks-more (x ∷ xs) t = ap (λ (r : List ℕ). 0x54 ∷ (number_bytes 2 x.work ++ (number_bytes 2 x.store ++ r))) (tasks-more xs t)

pub links-more : (xs : List Link) (l : Link) → link_bytes (xs ++ (l ∷ [])) ≡ link_bytes xs ++ link_command l
links-more [] l = refl
links-more (x ∷ xs) l = ap (λ (r : List ℕ). 0x45 ∷ x.source ∷ x.target ∷ (number_bytes 2 x.cost ++ (number_bytes 2 x.bytes ++ r))) (links-more xs l)

pub tasks-length : (f : ℕ → Task) (n : ℕ) → length (task_bytes (listed n f)) ≡ n * task_size
tasks-length = length-all task_size task_command task_bytes refl tasks-more (λ t. refl)

pub links-length : (f : ℕ → Link) (n : ℕ) → length (link_bytes (listed n f)) ≡ n * link_size
links-length = length-all link_size link_command link_bytes refl links-more (λ l. refl)

pub tasks-next : (f : ℕ → Task) (b m r : List ℕ) (i : ℕ) → m ≡ stored b 0 (task_bytes (listed i f)) → r ≡ stored m (task_size * i) (task_command (f i)) → r ≡ stored b 0 (task_bytes (listed (i + 1) f))
tasks-next f b m r i p q = all-next task_size task_command task_bytes refl tasks-more (λ t. refl) f b m r i (task_size * i) p q (omega arith)

pub links-next : (f : ℕ → Link) (b m r : List ℕ) (i : ℕ) → m ≡ stored b 0 (link_bytes (listed i f)) → r ≡ stored m (link_size * i) (link_command (f i)) → r ≡ stored b 0 (link_bytes (listed (i + 1) f))
links-next f b m r i p q = all-next link_size link_command link_bytes refl links-more (λ l. refl) f b m r i (link_size * i) p q (omega arith)

pub length_three : (b : List ℕ) (i x y z : ℕ) → length (set (set (set b i x) (i + 1) y) (i + 2) z) ≡ length b
length_three b i x y z = simp length-set

-- nothing written yet
pub tasks-none : (f : ℕ → Task) (b : List ℕ) → b ≡ stored b 0 (task_bytes (listed 0 f))
tasks-none f = all_none task_size task_command task_bytes refl tasks-more (λ t. refl) f

pub links-none : (f : ℕ → Link) (b : List ℕ) → b ≡ stored b 0 (link_bytes (listed 0 f))
links-none f = all_none link_size link_command link_bytes refl links-more (λ l. refl) f

-- nothing stored
stored-nothing : (b : List ℕ) (i : ℕ) → b ≡ stored b i []
unfolding stored
stored-nothing b i = sym (simp (append-nil, add-zero, take-append-drop))

-- no unpacking time, or its command
pub unpacking-none : (b : List ℕ) (u : ℕ) → u ≡ 0 → b ≡ stored b board_size (unpacking_bytes u)
unpacking-none b u h = rw (eq-eqb u 0 h) (stored-nothing b board_size)

pub unpacking-stored : (b m r : List ℕ) (u : ℕ) → u ≢ 0 → board_size ≤ length b → m ≡ stored b board_size (0x55 ∷ []) → r ≡ stored m (board_size + 1) (number_bytes 2 u)
    → r ≡ stored b board_size (unpacking_bytes u)
unpacking-stored b m r u h l p q = rw (ne_eqb u 0 h) (stored-then b m r board_size (board_size + 1) (0x55 ∷ []) (number_bytes 2 u) p q refl l)

-- no cube, or its command
pub cube-none : (b : List ℕ) (at : ℕ) (c : Bool) → c ≡ false → b ≡ stored b at (cube_bytes c)
cube-none b at c h = rw h (stored-nothing b at)

module _ (b : List ℕ) (at : ℕ) (c : Bool) (h : c ≡ true) (room : at + pick c cube_size 0 ≤ length b) where
  pub cube-room : at < length b
  cube-room = omega (arith, rw h at room)

  pub cube-stored : set b at 0x48 ≡ stored b at (cube_bytes c)
  cube-stored = rw h (stored_one b at 0x48 cube-room)

-- how far the board reaches without a cube
pub timed-length : (p l u : ℕ) → length (0x4D ∷ p ∷ (number_bytes 4 l ++ unpacking_bytes u)) ≡ front_by u false
timed-length p l u = ap (λ (b : List ℕ). length (0x4D ∷ p ∷ (number_bytes 4 l ++ b))) (sym (append-nil (unpacking_bytes u))) ∙ board-length p l u false

-- the parts of a sheet, written one behind the other
module _ (k c u : ℕ) (x : Bool) (tv lv : List ℕ) (tasks-whole : length tv % 2 ≡ 0) (links-whole : length lv % 4 ≡ 0) where
  abbrev task_part : List ℕ
  task_part = task_bytes (listed (length tv / 2) (task_value tv))

  abbrev link_part : List ℕ
  link_part = link_bytes (listed (length lv / 4) (link_value lv))

  sheet-parts : board_bytes k c u x ++ task_part ++ link_part ++ (0x51 ∷ []) ≡ value_bytes k c u x tv lv
  unfolding value_bytes task_value_bytes link_value_bytes
  sheet-parts = rw (eq-eqb (length tv % 2) 0 tasks-whole, eq-eqb (length lv % 4) 0 links-whole)
      (append_assoc (board_bytes k c u x ++ task_part) link_part (0x51 ∷ []) ∙ append_assoc (board_bytes k c u x) task_part (link_part ++ (0x51 ∷ [])))

  pub sheet-stored : (b m₁ m₂ m₃ : List ℕ) (start : ℕ) → start ≡ front_by u x → start + task_size * (length tv / 2) + link_size * (length lv / 4) + 1 ≤ length b
      → m₁ ≡ stored b 0 (board_bytes k c u x) → m₂ ≡ stored m₁ start task_part → m₃ ≡ stored m₂ (start + task_size * (length tv / 2)) link_part
      → length m₃ ≡ length b
      → set m₃ (start + task_size * (length tv / 2) + link_size * (length lv / 4)) 0x51 ≡ stored b 0 (value_bytes k c u x tv lv)
  sheet-stored b m₁ m₂ m₃ start front fit p q r e =
      let at : ℕ = start + task_size * (length tv / 2) in
      let bl = board-length k c u x in
      let tl = tasks-length (task_value tv) (length tv / 2) in
      let ll = links-length (link_value lv) (length lv / 4) in
      let p₂ = stored-then b m₁ m₂ 0 start (board_bytes k c u x) task_part p q (omega arith) zero-le in
      let p₃ = stored-then b m₂ m₃ 0 at (board_bytes k c u x ++ task_part) link_part p₂ r (omega (arith, length-append (board_bytes k c u x) task_part)) zero-le in
      let last = stored_one m₃ (at + link_size * (length lv / 4)) 0x51 (omega arith) in
      stored-then b m₃ _ 0 (at + link_size * (length lv / 4)) (board_bytes k c u x ++ task_part ++ link_part) (0x51 ∷ []) p₃ last
      (omega (arith, length-append (board_bytes k c u x ++ task_part) link_part, length-append (board_bytes k c u x) task_part)) zero-le
      ∙ ap (stored b 0) sheet-parts

-- the same for values
abbrev pub task_pair : Task → List ℕ
task_pair t = t.work ∷ t.store ∷ []

abbrev pub link_pairs : Link → List ℕ
link_pairs l = l.source ∷ l.target ∷ l.cost ∷ l.bytes ∷ []

pub task_values-more : (xs : List Task) (t : Task) → task_values (xs ++ (t ∷ [])) ≡ task_values xs ++ task_pair t
task_values-more [] t = refl
task_values-more (x ∷ xs) t = ap (λ (r : List ℕ). x.work ∷ x.store ∷ r) (task_values-more xs t)

pub link_values-more : (xs : List Link) (l : Link) → link_values (xs ++ (l ∷ [])) ≡ link_values xs ++ link_pairs l
link_values-more [] l = refl
link_values-more (x ∷ xs) l = ap (λ (r : List ℕ). x.source ∷ x.target ∷ x.cost ∷ x.bytes ∷ r) (link_values-more xs l)

pub task_values-none : (f : ℕ → Task) (b : List ℕ) → b ≡ stored b 0 (task_values (listed 0 f))
task_values-none f = all_none 2 task_pair task_values refl task_values-more (λ t. refl) f

pub link_values-none : (f : ℕ → Link) (b : List ℕ) → b ≡ stored b 0 (link_values (listed 0 f))
link_values-none f = all_none 4 link_pairs link_values refl link_values-more (λ l. refl) f

pub task_values-next : (f : ℕ → Task) (b m r : List ℕ) (i x y : ℕ) → m ≡ stored b 0 (task_values (listed i f)) → r ≡ stored m (2 * i) (x ∷ y ∷ []) → x ≡ (f i).work → y ≡ (f i).store
    → r ≡ stored b 0 (task_values (listed (i + 1) f))
task_values-next f b m r i x y p q e₁ e₂ =
    all-next 2 task_pair task_values refl task_values-more (λ t. refl) f b m r i (2 * i) p
    (q ∙ ap₂ (λ (u v : ℕ). stored m (2 * i) (u ∷ v ∷ [])) e₁ e₂) (omega arith)

pub link_values-next : (f : ℕ → Link) (b m r : List ℕ) (i : ℕ) → m ≡ stored b 0 (link_values (listed i f)) → r ≡ stored m (4 * i) (link_pairs (f i)) → r ≡ stored b 0 (link_values (listed (i + 1) f))
link_values-next f b m r i p q = all-next 4 link_pairs link_values refl link_values-more (λ l. refl) f b m r i (4 * i) p q (omega arith)

pub pairs-link : (l : Link) (b m r : List ℕ) (at x y z u : ℕ) → m ≡ stored b at (x ∷ y ∷ []) → r ≡ stored m (at + 2) (z ∷ u ∷ []) → at ≤ length b
    → x ≡ l.source → y ≡ l.target → z ≡ l.cost → u ≡ l.bytes → r ≡ stored b at (link_pairs l)
pairs-link l b m r at x y z u p q h e₁ e₂ e₃ e₄ =
    stored-then b m r at (at + 2) (x ∷ y ∷ []) (z ∷ u ∷ []) p q refl h
    ∙ ap₂ (λ (i j : ℕ). stored b at (i ∷ j ∷ z ∷ u ∷ [])) e₁ e₂ ∙ ap₂ (λ (i j : ℕ). stored b at (l.source ∷ l.target ∷ i ∷ j ∷ [])) e₃ e₄
