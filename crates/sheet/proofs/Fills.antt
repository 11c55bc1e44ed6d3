-- The tables and pair bits with a task or a link more.
use Prim.Native.Nat.{ℕ, ◌+◌, ◌*◌, ◌/◌, ◌%◌, ◌^◌, ◌≤◌, ◌<◌}
use mathlib.Core.Bool.{true, false}
use mathlib.Core.Path.{◌≡◌, ap, ap₂, sym, ◌∙◌}
use mathlib.Core.Logic.{◌≢◌, inl, ⊎_elim}
use mathlib.Core.List.{List, [], ◌∷◌, ◌++◌}
use native.Mathlib.Omega.{arith}
use borrow.Author.Tests.{eqb-false, eq-eqb}
use lib.ListN.{length, get_or, set, length-set}
use lib.Seq.{get_or-set_same, get_or-set_other}
use lib.Dec.{eqb}
use Rattle.folds.specs.Folds.{listed}
use Rattle.folds.proofs.Tests.{equal-or}
use Rattle.folds.proofs.Loops.{listed-one}
use Rattle.folds.proofs.Lists.{listed-cong}
use Rattle.workspace.specs.Area.{fixed, ClearIs, limit_at, link_count_at, links_at, pairs_at, processors_at, sizes_at, task_count_at, tasks_at, unpacking_at, cube_at}
use Rattle.sheet.specs.Sheet.{Task, Link}
use Rattle.sheet.specs.Tables.{task_of_word, link_of_words, task_in, link_in, sheet_in, bit_at, pair_in, task_words, link_words, pair_words, unpacking_words, cube_words, Blanked}
use Rattle.sheet.proofs.Bits.{bit-set, bit-other, bit-room, bit_le}

-- a bit that is not set leaves room for it
pub pair-room : (w : List ℕ) (a b : ℕ) → pair_in w a b ≡ false → get_or w (pairs_at + (8 * a + b / 32)) 0 < 4294967296
    → get_or w (pairs_at + (8 * a + b / 32)) 0 + 2 ^ (b % 32) < 4294967296
unfolding pair_in
pair-room w a b h l =
    let x : ℕ = get_or w (pairs_at + (8 * a + b / 32)) 0 in
    let no : bit_at x (b % 32) ≢ 1 = eqb-false _ _ h in
    bit-room (b % 32) 32 x (omega arith) l (omega (arith, bit_le x (b % 32)))

module _ (w : List ℕ) (a b : ℕ) (long : fixed ≤ length w) (a_small : a < 256) (b-small : b < 256) where
  -- what setting a pair's bit leaves
  pub pair-away : (i : ℕ) → i < pairs_at → get_or (pair_words w a b) i 0 ≡ get_or w i 0
  unfolding pair_words
  pair-away i h = get_or-set_other w _ i _ 0 (λ q. omega arith)

  pub pair-long : length (pair_words w a b) ≡ length w
  unfolding pair_words
  pair-long = length-set w _ _

  -- the pair's own bit, and that of another pair
  pub pair_same : pair_in w a b ≡ false → pair_in (pair_words w a b) a b ≡ true
  unfolding pair_in pair_words
  pair_same h =
      let i : ℕ = pairs_at + (8 * a + b / 32) in
      let no : bit_at (get_or w i 0) (b % 32) ≢ 1 = eqb-false _ _ h in
      let e : get_or (set w i (get_or w i 0 + 2 ^ (b % 32))) i 0 ≡ get_or w i 0 + 2 ^ (b % 32) = get_or-set_same w i _ 0 (omega arith) in
      rw e (eq-eqb _ _ (bit-set (b % 32) (get_or w i 0) (omega (arith, bit_le (get_or w i 0) (b % 32)))))

  pub pair-other : pair_in w a b ≡ false → (c d : ℕ) → d < 256 → ((c ≡ a) × (d ≡ b) → ⊥) → pair_in (pair_words w a b) c d ≡ pair_in w c d
  unfolding pair_in pair_words
  pair-other h c d d_small away =
      let i : ℕ = pairs_at + (8 * a + b / 32) in
      let k : ℕ = pairs_at + (8 * c + d / 32) in
      let no : bit_at (get_or w i 0) (b % 32) ≢ 1 = eqb-false _ _ h in
      ⊎_elim
      (λ (q : k ≡ i).
      let bits : d % 32 ≢ b % 32 = λ r. away (omega arith, omega arith) in
      let e : get_or (set w i (get_or w i 0 + 2 ^ (b % 32))) i 0 ≡ get_or w i 0 + 2 ^ (b % 32) = get_or-set_same w i _ 0 (omega arith) in
      rw (q, e) (ap (λ (x : ℕ). eqb x 1) (bit-other (b % 32) (d % 32) (get_or w i 0) bits (omega (arith, bit_le (get_or w i 0) (b % 32))))))
      (λ q. ap (λ (x : ℕ). eqb (bit_at x (d % 32)) 1) (get_or-set_other w i k (get_or w i 0 + 2 ^ (b % 32)) 0 q))
      (equal-or k i)

-- packed numbers are read back
task-packed : (work store : ℕ) → work < 65536 → task_of_word (work + 65536 * store) ≡ record { work = work; store = store }
task-packed work store h =
    let p : (work + 65536 * store) % 65536 ≡ work = omega arith in
    let q : (work + 65536 * store) / 65536 ≡ store = omega arith in
    λ x. record { work = p x; store = q x }

link-packed : (a b c d : ℕ) → a < 256 → b < 256 → link_of_words (a + 256 * b + 65536 * c) d ≡ record { source = a; target = b; cost = c; bytes = d }
link-packed a b c d h k =
    let p : (a + 256 * b + 65536 * c) % 256 ≡ a = omega arith in
    let high : (a + 256 * b + 65536 * c) / 256 ≡ b + 256 * c = omega arith in
    let q : (a + 256 * b + 65536 * c) / 256 % 256 ≡ b = rw high (omega arith) in
    let r : (a + 256 * b + 65536 * c) / 65536 ≡ c = omega arith in
    λ x. record { source = p x; target = q x; cost = r x; bytes = d }

-- a word of the board is another: the tables
module _ (w v : List ℕ) (at : ℕ) (board : at < tasks_at) (away : (i : ℕ) → i ≢ at → get_or v i 0 ≡ get_or w i 0) where
  pub board-task : (t : ℕ) → task_in v t ≡ task_in w t
  board-task t = ap task_of_word (away (tasks_at + t) (λ q. omega arith))

  pub board-link : (l : ℕ) → link_in v l ≡ link_in w l
  board-link l = ap₂ link_of_words (away (links_at + l) (λ q. omega arith)) (away (sizes_at + l) (λ q. omega arith))

  board-tasks : task_count_at ≢ at → listed (get_or v task_count_at 0) (task_in v) ≡ listed (get_or w task_count_at 0) (task_in w)
  board-tasks d = ap (λ (k : ℕ). listed k (task_in v)) (away task_count_at d) ∙ listed-cong (get_or w task_count_at 0) _ (task_in w) (λ t k. board-task t)

  board-links : link_count_at ≢ at → listed (get_or v link_count_at 0) (link_in v) ≡ listed (get_or w link_count_at 0) (link_in w)
  board-links d = ap (λ (k : ℕ). listed k (link_in v)) (away link_count_at d) ∙ listed-cong (get_or w link_count_at 0) _ (link_in w) (λ l k. board-link l)

-- whether word cube_at says that the board is a cube
wired : {x y : ℕ} → x ≡ y → eqb x 1 ≡ eqb y 1
wired e = ap (λ (z : ℕ). eqb z 1) e

-- another time for unpacking
module _ (w : List ℕ) (u : ℕ) (long : fixed ≤ length w) where
  pub unpacking-away : (i : ℕ) → i ≢ unpacking_at → get_or (unpacking_words w u) i 0 ≡ get_or w i 0
  unfolding unpacking_words
  unpacking-away i h = get_or-set_other w unpacking_at i u 0 h

  pub unpacking-here : get_or (unpacking_words w u) unpacking_at 0 ≡ u
  unfolding unpacking_words
  unpacking-here = get_or-set_same w unpacking_at u 0 (omega arith)

  pub unpacking-long : length (unpacking_words w u) ≡ length w
  unfolding unpacking_words
  unpacking-long = length-set w unpacking_at u

  pub sheet-unpacking : sheet_in (unpacking_words w u) ≡ record { processors = (sheet_in w).processors; limit = (sheet_in w).limit; unpacking = u; cube = (sheet_in w).cube; tasks = (sheet_in w).tasks; links = (sheet_in w).links }
  unfolding sheet_in
  sheet-unpacking =
      let away = unpacking-away in
      let tasks = board-tasks w (unpacking_words w u) unpacking_at (omega arith) away (λ q. omega arith) in
      let links = board-links w (unpacking_words w u) unpacking_at (omega arith) away (λ q. omega arith) in
      let p : get_or (unpacking_words w u) processors_at 0 ≡ get_or w processors_at 0 = away processors_at (λ q. omega arith) in
      let l : get_or (unpacking_words w u) limit_at 0 ≡ get_or w limit_at 0 = away limit_at (λ q. omega arith) in
      let c = wired (away cube_at (λ q. omega arith)) in
      λ x. record { processors = p x; limit = l x; unpacking = unpacking-here x; cube = c x; tasks = tasks x; links = links x }

-- a cube
module _ (w : List ℕ) (long : fixed ≤ length w) where
  pub cube-away : (i : ℕ) → i ≢ cube_at → get_or (cube_words w) i 0 ≡ get_or w i 0
  unfolding cube_words
  cube-away i h = get_or-set_other w cube_at i 1 0 h

  cube-here : get_or (cube_words w) cube_at 0 ≡ 1
  unfolding cube_words
  cube-here = get_or-set_same w cube_at 1 0 (omega arith)

  pub cube-long : length (cube_words w) ≡ length w
  unfolding cube_words
  cube-long = length-set w cube_at 1

  pub sheet-cube : sheet_in (cube_words w) ≡ record { processors = (sheet_in w).processors; limit = (sheet_in w).limit; unpacking = (sheet_in w).unpacking; cube = true; tasks = (sheet_in w).tasks; links = (sheet_in w).links }
  unfolding sheet_in
  sheet-cube =
      let away = cube-away in
      let tasks = board-tasks w (cube_words w) cube_at (omega arith) away (λ q. omega arith) in
      let links = board-links w (cube_words w) cube_at (omega arith) away (λ q. omega arith) in
      let p : get_or (cube_words w) processors_at 0 ≡ get_or w processors_at 0 = away processors_at (λ q. omega arith) in
      let l : get_or (cube_words w) limit_at 0 ≡ get_or w limit_at 0 = away limit_at (λ q. omega arith) in
      let u : get_or (cube_words w) unpacking_at 0 ≡ get_or w unpacking_at 0 = away unpacking_at (λ q. omega arith) in
      let c = wired cube-here in
      λ x. record { processors = p x; limit = l x; unpacking = u x; cube = c x; tasks = tasks x; links = links x }

-- one task more: the words elsewhere, and the sheet
module _ (w : List ℕ) (n work store : ℕ) (long : fixed ≤ length w) (n-small : n < 256) where
  pub task-away : (i : ℕ) → i ≢ tasks_at + n → i ≢ 0 → get_or (task_words w n work store) i 0 ≡ get_or w i 0
  unfolding task_words
  task-away i h₁ h₂ = simp get_or-set_other

  pub task-long : length (task_words w n work store) ≡ length w
  unfolding task_words
  task-long = simp length-set

  pub task-count : get_or (task_words w n work store) 0 0 ≡ n + 1
  unfolding task_words
  task-count = get_or-set_same (set w (tasks_at + n) (work + 65536 * store)) 0 (n + 1) 0 (simp length-set (omega arith))

  pub task-old : (t : ℕ) → t ≢ n → task_in (task_words w n work store) t ≡ task_in w t
  task-old t h = ap task_of_word (task-away (tasks_at + t) (λ q. h (omega arith)) (λ q. omega arith))

  pub task-new : work < 65536 → task_in (task_words w n work store) n ≡ record { work = work; store = store }
  unfolding task_words
  task-new h =
      let h1 : tasks_at + n ≢ 0 = λ q. omega arith in
      let l : tasks_at + n < length w = omega arith in
      let e : get_or (set (set w (tasks_at + n) (work + 65536 * store)) 0 (n + 1)) (tasks_at + n) 0 ≡ work + 65536 * store = simp (get_or-set_other, get_or-set_same) in
      ap task_of_word e ∙ task-packed work store h

  pub task-links : (l : ℕ) → link_in (task_words w n work store) l ≡ link_in w l
  task-links l = ap₂ link_of_words (task-away (links_at + l) (λ q. omega arith) (λ q. omega arith)) (task-away (sizes_at + l) (λ q. omega arith) (λ q. omega arith))

  pub sheet-task : get_or w 0 0 ≡ n → work < 65536
      → sheet_in (task_words w n work store) ≡ record { processors = (sheet_in w).processors; limit = (sheet_in w).limit; unpacking = (sheet_in w).unpacking; cube = (sheet_in w).cube; tasks = (sheet_in w).tasks ++ record { work = work; store = store } ∷ []; links = (sheet_in w).links }
  unfolding sheet_in
  sheet-task e h =
      let tasks : listed (get_or (task_words w n work store) 0 0) (task_in (task_words w n work store)) ≡ listed (get_or w 0 0) (task_in w) ++ record { work = work; store = store } ∷ [] =
      ap (λ (k : ℕ). listed k (task_in (task_words w n work store))) task-count
      ∙ listed-one n (task_in (task_words w n work store))
      ∙ ap₂ (λ (l : List Task) (x : Task). l ++ x ∷ []) (listed-cong n _ (task_in w) (λ t k. task-old t (λ q. omega arith)) ∙ ap (λ (k : ℕ). listed k (task_in w)) (sym e)) (task-new h) in
      let links : listed (get_or (task_words w n work store) 1 0) (link_in (task_words w n work store)) ≡ listed (get_or w 1 0) (link_in w) =
      ap (λ (k : ℕ). listed k (link_in (task_words w n work store))) (task-away 1 (λ q. omega arith) (λ q. omega arith))
      ∙ listed-cong (get_or w 1 0) _ (link_in w) (λ l k. task-links l) in
      let p : get_or (task_words w n work store) 2 0 ≡ get_or w 2 0 = task-away 2 (λ q. omega arith) (λ q. omega arith) in
      let q : get_or (task_words w n work store) 3 0 ≡ get_or w 3 0 = task-away 3 (λ q. omega arith) (λ q. omega arith) in
      let u : get_or (task_words w n work store) unpacking_at 0 ≡ get_or w unpacking_at 0 = task-away unpacking_at (λ q. omega arith) (λ q. omega arith) in
      let c = wired (task-away cube_at (λ q. omega arith) (λ q. omega arith)) in
      λ x. record { processors = p x; limit = q x; unpacking = u x; cube = c x; tasks = tasks x; links = links x }

-- one link more: the words elsewhere, and the sheet
module _ (w : List ℕ) (m a b c d : ℕ) (long : fixed ≤ length w) (m-small : m < 1024) where
  pub link-away : (i : ℕ) → i ≢ links_at + m → i ≢ sizes_at + m → i ≢ 1 → get_or (link_words w m a b c d) i 0 ≡ get_or w i 0
  unfolding link_words
  link-away i h₁ h₂ h₃ = simp get_or-set_other

  pub link-long : length (link_words w m a b c d) ≡ length w
  unfolding link_words
  link-long = simp length-set

  pub link-count : get_or (link_words w m a b c d) 1 0 ≡ m + 1
  unfolding link_words
  link-count = get_or-set_same (set (set w (links_at + m) (a + 256 * b + 65536 * c)) (sizes_at + m) d) 1 (m + 1) 0 (simp length-set (omega arith))

  pub link-old : (l : ℕ) → l < m → link_in (link_words w m a b c d) l ≡ link_in w l
  link-old l h =
      ap₂ link_of_words (link-away (links_at + l) (λ q. omega arith) (λ q. omega arith) (λ q. omega arith)) (link-away (sizes_at + l) (λ q. omega arith) (λ q. omega arith) (λ q. omega arith))

  pub link-new : a < 256 → b < 256 → link_in (link_words w m a b c d) m ≡ record { source = a; target = b; cost = c; bytes = d }
  unfolding link_words
  link-new h k =
      let x : ℕ = a + 256 * b + 65536 * c in
      let h0 : links_at + m ≢ sizes_at + m = λ q. omega arith in
      let h1 : links_at + m ≢ 1 = λ q. omega arith in
      let h2 : sizes_at + m ≢ 1 = λ q. omega arith in
      let l0 : links_at + m < length w = omega arith in
      let l1 : sizes_at + m < length (set w (links_at + m) x) = simp length-set (omega arith) in
      let p : get_or (set (set (set w (links_at + m) x) (sizes_at + m) d) 1 (m + 1)) (links_at + m) 0 ≡ x = simp (get_or-set_other, get_or-set_same) in
      let q : get_or (set (set (set w (links_at + m) x) (sizes_at + m) d) 1 (m + 1)) (sizes_at + m) 0 ≡ d = simp (get_or-set_other, get_or-set_same) in
      ap₂ link_of_words p q ∙ link-packed a b c d h k

  pub link-tasks : (t : ℕ) → t < 256 → task_in (link_words w m a b c d) t ≡ task_in w t
  link-tasks t h = ap task_of_word (link-away (tasks_at + t) (λ q. omega arith) (λ q. omega arith) (λ q. omega arith))

  pub sheet-link : get_or w 1 0 ≡ m → get_or w 0 0 ≤ 256 → a < 256 → b < 256
      → sheet_in (link_words w m a b c d) ≡ record { processors = (sheet_in w).processors; limit = (sheet_in w).limit; unpacking = (sheet_in w).unpacking; cube = (sheet_in w).cube; tasks = (sheet_in w).tasks; links = (sheet_in w).links ++ record { source = a; target = b; cost = c; bytes = d } ∷ [] }
  unfolding sheet_in
  sheet-link e few h k =
      let links : listed (get_or (link_words w m a b c d) 1 0) (link_in (link_words w m a b c d)) ≡ listed (get_or w 1 0) (link_in w) ++ record { source = a; target = b; cost = c; bytes = d } ∷ [] =
      ap (λ (k : ℕ). listed k (link_in (link_words w m a b c d))) link-count
      ∙ listed-one m (link_in (link_words w m a b c d))
      ∙ ap₂ (λ (l : List Link) (x : Link). l ++ x ∷ []) (listed-cong m _ (link_in w) link-old ∙ ap (λ (k : ℕ). listed k (link_in w)) (sym e)) (link-new h k) in
      let tasks : listed (get_or (link_words w m a b c d) 0 0) (task_in (link_words w m a b c d)) ≡ listed (get_or w 0 0) (task_in w) =
      ap (λ (k : ℕ). listed k (task_in (link_words w m a b c d))) (link-away 0 (λ q. omega arith) (λ q. omega arith) (λ q. omega arith))
      ∙ listed-cong (get_or w 0 0) _ (task_in w) (λ t l. link-tasks t (omega arith)) in
      let p : get_or (link_words w m a b c d) 2 0 ≡ get_or w 2 0 = link-away 2 (λ q. omega arith) (λ q. omega arith) (λ q. omega arith) in
      let q : get_or (link_words w m a b c d) 3 0 ≡ get_or w 3 0 = link-away 3 (λ q. omega arith) (λ q. omega arith) (λ q. omega arith) in
      let u : get_or (link_words w m a b c d) unpacking_at 0 ≡ get_or w unpacking_at 0 = link-away unpacking_at (λ q. omega arith) (λ q. omega arith) (λ q. omega arith) in
      let y = wired (link-away cube_at (λ q. omega arith) (λ q. omega arith) (λ q. omega arith)) in
      λ x. record { processors = p x; limit = q x; unpacking = u x; cube = y x; tasks = tasks x; links = links x }

-- pair words that were cleared
pub blanked : {e : ℕ} {w v : List ℕ} → ClearIs w v pairs_at e → Blanked e w v
blanked c = record { long = c.long; low = λ i h. c.other i (inl h); zeros = c.zeros }

-- a link added by a store of its bit and then of its numbers
pub added-by : (w : List ℕ) (m : ℕ) (mid : List ℕ) {x y c d x' y' c' d' : ℕ} → mid ≡ pair_words w x y → x ≡ x' → y ≡ y' → c ≡ c' → d ≡ d'
    → link_words mid m x y c d ≡ link_words (pair_words w x' y') m x' y' c' d'
added-by w m mid {x} {y} {c} {d} {x'} {y'} e p q r s =
    ap (λ (v : List ℕ). link_words v m x y c d) e
    ∙ ap₂ (λ (a b : ℕ). link_words (pair_words w a b) m a b c d) p q ∙ ap₂ (λ (a b : ℕ). link_words (pair_words w x' y') m x' y' a b) r s
