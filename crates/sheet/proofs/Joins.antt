-- Links that join two tasks, of a sheet with one link more; and the tables that are being filled, kept right by each command.
use Prim.Native.Nat.{ℕ, ◌+◌, ◌*◌, ◌/◌, ◌%◌, ◌≤◌, ◌<◌}
use mathlib.Core.Bool.{Bool, true, false}
use mathlib.Core.Path.{◌≡◌, refl, ap, ap₂, sym, ◌∙◌, subst}
use mathlib.Core.Logic.{◌≢◌, ⊎_elim}
use mathlib.Core.List.{List, [], ◌∷◌, ◌++◌}
use native.Mathlib.Omega.{arith}
use native.Mathlib.Decide.{ℕ_discrete}
use borrow.Author.Tests.{eq-eqb, ne_eqb}
use lib.ListN.{length, get_or, set, length-set, length-append, get_or-append}
use lib.Seq.{get_or_at, get_or-set_same, get_or-set_other}
use lib.Dec.{eqb}
use Rattle.folds.specs.Folds.{both, either, any, listed}
use Rattle.folds.proofs.Tests.{equal-or, both_false, either_true, either-false}
use Rattle.folds.proofs.Loops.{any-one, any-zero, listed-zero}
use Rattle.folds.proofs.Laws.{any-cong}
use Rattle.workspace.specs.Area.{fixed, link_count_at, pairs_at, processors_at, task_count_at, tasks_at, unpacking_at, cube_at}
use Rattle.sheet.specs.Sheet.{Sheet, Task, Link, no_link, link_count, source_of, target_of}
use Rattle.sheet.specs.Format.{joins, joins_by}
use Rattle.sheet.specs.Tables.{task_in, link_in, sheet_in, Loaded, bit_at, pair_in, Filling, task_words, link_words, pair_words, board_words, unpacking_words, cube_words, Blanked, LoadedOf}
use Rattle.sheet.proofs.Rows.{links-in, task-frame, link-frame, sheet-frame, loaded-frame}
use Rattle.sheet.proofs.Bits.{bit-none}
use Rattle.sheet.proofs.Fills.{pair-away, pair-long, pair_same, pair-other, task-away, task-long, task-count, task-old, task-new, task-links, link-away, link-long, link-count, link-old, link-new, link-tasks, sheet-link, board-task, board-link, unpacking-away, unpacking-here, unpacking-long, sheet-unpacking, cube-away, cube-long, sheet-cube}

joins-more : (ls : List Link) (x : Link) (a b : ℕ)
    → any (length (ls ++ x ∷ [])) (λ l. both (eqb (get_or (ls ++ x ∷ []) l no_link).source a) (eqb (get_or (ls ++ x ∷ []) l no_link).target b))
    ≡ either (any (length ls) (λ l. both (eqb (get_or ls l no_link).source a) (eqb (get_or ls l no_link).target b))) (both (eqb x.source a) (eqb x.target b))
joins-more ls x a b =
    let more : List Link = ls ++ x ∷ [] in
    let hit : ℕ → Bool = λ l. both (eqb (get_or more l no_link).source a) (eqb (get_or more l no_link).target b) in
    let old : ℕ → Bool = λ l. both (eqb (get_or ls l no_link).source a) (eqb (get_or ls l no_link).target b) in
    let last : get_or more (length ls) no_link ≡ x = get_or_at ls x [] no_link (length ls) refl in
    ap (λ (n : ℕ). any n hit) (length-append ls (x ∷ []))
    ∙ any-one (length ls) hit
    ∙ ap₂ either
    (any-cong (length ls) hit old (λ l h. ap (λ (y : Link). both (eqb y.source a) (eqb y.target b)) (get_or-append ls (x ∷ []) no_link l h)))
    (ap (λ (y : Link). both (eqb y.source a) (eqb y.target b)) last)

pub joins-link : (s t : Sheet) (x : Link) → t.links ≡ s.links ++ x ∷ [] → (a b : ℕ) → joins t a b ≡ either (joins s a b) (both (eqb x.source a) (eqb x.target b))
unfolding joins joins_by link_count source_of target_of
joins-link s t x e a b =
    ap (λ (ls : List Link). any (length ls) (λ l. both (eqb (get_or ls l no_link).source a) (eqb (get_or ls l no_link).target b))) e ∙ joins-more s.links x a b

-- the bits are those of the words from `pairs_at` on
pair-frame : (w w' : List ℕ) (a b : ℕ) → ((i : ℕ) → pairs_at ≤ i → get_or w' i 0 ≡ get_or w i 0) → pair_in w' a b ≡ pair_in w a b
unfolding pair_in
pair-frame w w' a b same = ap (λ (x : ℕ). eqb (bit_at x (b % 32)) 1) (same (pairs_at + (8 * a + b / 32)) (omega arith))

module _ (w : List ℕ) (n work store : ℕ) (h : Loaded w) (e : get_or w 0 0 ≡ n) (n-small : n < 256) (work-small : work < 65536) (store-small : store < 65536) where
  pub task-loaded : Loaded (task_words w n work store)
  task-loaded =
      let long : fixed ≤ length w = h.long in
      let few : get_or w 1 0 ≤ 1024 = h.links in
      let count = task-count w n work store long n-small in
      let away = task-away w n work store long n-small in
      let m : get_or (task_words w n work store) 1 0 ≡ get_or w 1 0 = away 1 (λ q. omega arith) (λ q. omega arith) in
      let link : (l : ℕ) → link_in (task_words w n work store) l ≡ link_in w l = task-links w n work store long n-small in
      record {
        long = omega (arith, task-long w n work store long n-small);
        tasks = omega arith;
        links = omega arith;
        processors = omega (arith, away 2 (λ q. omega arith) (λ q. omega arith), h.processors);
        unpacks = omega (arith, away unpacking_at (λ q. omega arith) (λ q. omega arith), h.unpacks);
        stores =
            λ t l.
            ⊎_elim (λ (q : t ≡ n). rw q (omega (arith, ap (λ (x : Task). x.store) (task-new w n work store long n-small work-small))))
            (λ (q : t ≢ n). omega (arith, ap (λ (x : Task). x.store) (task-old w n work store long n-small t q), h.stores t (omega arith)))
            (equal-or t n);
        source = λ l k. omega (arith, ap (λ (x : Link). x.source) (link l), h.source l (omega arith));
        target = λ l k. omega (arith, ap (λ (x : Link). x.target) (link l), h.target l (omega arith));
        costs = λ l k. omega (arith, ap (λ (x : Link). x.cost) (link l), h.costs l (omega arith));
        sizes = λ l k. omega (arith, ap (λ (x : Link). x.bytes) (link l), h.sizes l (omega arith));
      }

-- a link's bit is set first, and then its numbers are put
module _ (w : List ℕ) (m a b c d : ℕ) (f : Filling w) (e : get_or w 1 0 ≡ m) (m-small : m < 1024) (a_small : a < get_or w 0 0) (b-small : b < get_or w 0 0) (c-small : c < 65536) (d_small : d < 65536) where
  abbrev v : List ℕ
  v = pair_words w a b

  small : (a < 256) × (b < 256)
  small = (omega (arith, f.loaded.tasks), omega (arith, f.loaded.tasks))

  low : (i : ℕ) → i < pairs_at → get_or v i 0 ≡ get_or w i 0
  low = pair-away w a b f.loaded.long small.0 small.1

  v-long : length v ≡ length w
  v-long = pair-long w a b f.loaded.long small.0 small.1

  link-loaded : Loaded (link_words v m a b c d)
  link-loaded =
      let h = f.loaded in
      let long : fixed ≤ length v = omega (arith, v-long, h.long) in
      let few : get_or w 0 0 ≤ 256 = h.tasks in
      let count = link-count v m a b c d long m-small in
      let away = link-away v m a b c d long m-small in
      let n : get_or (link_words v m a b c d) 0 0 ≡ get_or w 0 0 = away 0 (λ q. omega arith) (λ q. omega arith) (λ q. omega arith) ∙ low 0 (omega arith) in
      let old : (t : ℕ) → t < 256 → task_in (link_words v m a b c d) t ≡ task_in w t =
      λ t l. link-tasks v m a b c d long m-small t l ∙ task-frame w v (λ i k. low i (omega arith)) t l in
      let each : (P : Link → Type 0) → P (record { source = a; target = b; cost = c; bytes = d }) → ((l : ℕ) → l < m → P (link_in w l)) → (l : ℕ) → l < m + 1 → P (link_in (link_words v m a b c d) l) =
      λ P p g l k.
      ⊎_elim (λ (q : l ≡ m). rw q (subst P (sym (link-new v m a b c d long m-small small.0 small.1)) p))
      (λ (q : l ≢ m). subst P (sym (link-old v m a b c d long m-small l (omega arith) ∙ link-frame w v (λ i k. low i (omega arith)) l (omega arith))) (g l (omega arith)))
      (equal-or l m) in
      record {
        long = omega (arith, link-long v m a b c d long m-small);
        tasks = omega arith;
        links = omega arith;
        processors = omega (arith, away 2 (λ q. omega arith) (λ q. omega arith) (λ q. omega arith), low 2 (omega arith), h.processors);
        unpacks = omega (arith, away unpacking_at (λ q. omega arith) (λ q. omega arith) (λ q. omega arith), low unpacking_at (omega arith), h.unpacks);
        stores = λ t l. omega (arith, ap (λ (x : Task). x.store) (old t (omega arith)), h.stores t (omega arith));
        source = λ l k. rw n (each (λ (x : Link). x.source < get_or w 0 0) a_small (λ i g. h.source i (omega arith)) l (omega arith));
        target = λ l k. rw n (each (λ (x : Link). x.target < get_or w 0 0) b-small (λ i g. h.target i (omega arith)) l (omega arith));
        costs = λ l k. each (λ (x : Link). x.cost < 65536) c-small (λ i g. h.costs i (omega arith)) l (omega arith);
        sizes = λ l k. each (λ (x : Link). x.bytes < 65536) d_small (λ i g. h.sizes i (omega arith)) l (omega arith);
      }

  -- the sheet then
  pub link-sheet : sheet_in (link_words v m a b c d) ≡ record { processors = (sheet_in w).processors; limit = (sheet_in w).limit; unpacking = (sheet_in w).unpacking; cube = (sheet_in w).cube; tasks = (sheet_in w).tasks; links = (sheet_in w).links ++ record { source = a; target = b; cost = c; bytes = d } ∷ [] }
  link-sheet =
      let h = f.loaded in
      let same : sheet_in v ≡ sheet_in w = sheet-frame w v (λ i l. low i (omega arith)) h.tasks h.links in
      sheet-link v m a b c d (omega (arith, v-long, h.long)) m-small (low 1 (omega arith) ∙ e) (omega (arith, low 0 (omega arith), h.tasks)) small.0 small.1
      ∙ ap (λ (s : Sheet). record { processors = s.processors; limit = s.limit; unpacking = s.unpacking; cube = s.cube; tasks = s.tasks; links = s.links ++ record { source = a; target = b; cost = c; bytes = d } ∷ [] }) same

  pub filling-link : joins (sheet_in w) a b ≡ false → Filling (link_words v m a b c d)
  filling-link single =
      let h = f.loaded in
      let few : get_or w 0 0 ≤ 256 = h.tasks in
      let clear : pair_in w a b ≡ false = f.pairs a b a_small b-small ∙ single in
      let n : get_or (link_words v m a b c d) 0 0 ≡ get_or w 0 0 =
      link-away v m a b c d (omega (arith, v-long, h.long)) m-small 0 (λ q. omega arith) (λ q. omega arith) (λ q. omega arith) ∙ low 0 (omega arith) in
      let last : Sheet = sheet_in (link_words v m a b c d) in
      let joined : (x y : ℕ) → joins last x y ≡ either (joins (sheet_in w) x y) (both (eqb a x) (eqb b y)) =
      joins-link (sheet_in w) last (record { source = a; target = b; cost = c; bytes = d }) (ap (λ (s : Sheet). s.links) link-sheet) in
      let high : (x y : ℕ) → pair_in (link_words v m a b c d) x y ≡ pair_in v x y =
      λ x y. pair-frame v (link_words v m a b c d) x y (λ i l. link-away v m a b c d (omega (arith, v-long, h.long)) m-small i (λ r. omega arith) (λ r. omega arith) (λ r. omega arith)) in
      record {
        loaded = link-loaded;
        pairs = λ x y p q. high x y ∙ at x y (omega arith) (omega arith) clear (ℕ_discrete x a) (ℕ_discrete y b) ∙ sym (joined x y);
      }
    where
      other : (x y : ℕ) → x < get_or w 0 0 → y < get_or w 0 0 → pair_in w a b ≡ false → both (eqb a x) (eqb b y) ≡ false → ((x ≡ a) × (y ≡ b) → ⊥) → pair_in v x y ≡ either (joins (sheet_in w) x y) (both (eqb a x) (eqb b y))
      other x y p q clear apart away =
          pair-other w a b f.loaded.long small.0 small.1 clear x y (omega (arith, f.loaded.tasks)) away
          ∙ f.pairs x y p q ∙ sym (ap (λ (z : Bool). either (joins (sheet_in w) x y) z) apart ∙ either-false (joins (sheet_in w) x y))

      at : (x y : ℕ) → x < get_or w 0 0 → y < get_or w 0 0 → pair_in w a b ≡ false → Dec (x ≡ a) → Dec (y ≡ b) → pair_in v x y ≡ either (joins (sheet_in w) x y) (both (eqb a x) (eqb b y))
      at x y p q clear (yes g) (yes k) =
          rw (g, k) (pair_same w a b f.loaded.long small.0 small.1 clear
          ∙ sym (rw (eq-eqb a a refl, eq-eqb b b refl) (either_true (joins (sheet_in w) a b))))
      at x y p q clear (yes g) (no k) =
          other x y p q clear (rw (ne_eqb b y (λ r. k (sym r))) (both_false (eqb a x))) (λ r. k r.1)
      at x y p q clear (no g) k = other x y p q clear (rw (ne_eqb a x (λ r. g (sym r)))) (λ r. g r.0)

-- a board without tasks
module _ (w : List ℕ) (p l : ℕ) (long : fixed ≤ length w) (few : p ≤ 16) where
  board-long : length (board_words w p l) ≡ length w
  unfolding board_words
  board-long = simp length-set

  board-words : (get_or (board_words w p l) 0 0 ≡ 0) × (get_or (board_words w p l) 1 0 ≡ 0) × (get_or (board_words w p l) 2 0 ≡ p) × (get_or (board_words w p l) 3 0 ≡ l) × (get_or (board_words w p l) 4 0 ≡ 0) × (get_or (board_words w p l) 5 0 ≡ 0)
  unfolding board_words
  board-words =
      let d01 : ◌≢◌ {A = ℕ} 0 1 = λ q. omega arith in
      let d02 : ◌≢◌ {A = ℕ} 0 2 = λ q. omega arith in
      let d03 : ◌≢◌ {A = ℕ} 0 3 = λ q. omega arith in
      let d12 : ◌≢◌ {A = ℕ} 1 2 = λ q. omega arith in
      let d13 : ◌≢◌ {A = ℕ} 1 3 = λ q. omega arith in
      let d23 : ◌≢◌ {A = ℕ} 2 3 = λ q. omega arith in
      let d04 : ◌≢◌ {A = ℕ} 0 4 = λ q. omega arith in
      let d14 : ◌≢◌ {A = ℕ} 1 4 = λ q. omega arith in
      let d24 : ◌≢◌ {A = ℕ} 2 4 = λ q. omega arith in
      let d34 : ◌≢◌ {A = ℕ} 3 4 = λ q. omega arith in
      let d05 : ◌≢◌ {A = ℕ} 0 5 = λ q. omega arith in
      let d15 : ◌≢◌ {A = ℕ} 1 5 = λ q. omega arith in
      let d25 : ◌≢◌ {A = ℕ} 2 5 = λ q. omega arith in
      let d35 : ◌≢◌ {A = ℕ} 3 5 = λ q. omega arith in
      let d45 : ◌≢◌ {A = ℕ} 4 5 = λ q. omega arith in
      let l0 : 0 < length w = omega arith in
      let l1 : 1 < length (set w 0 0) = simp length-set (omega arith) in
      let l2 : 2 < length (set (set w 0 0) 1 0) = simp length-set (omega arith) in
      let l3 : 3 < length (set (set (set w 0 0) 1 0) 2 p) = simp length-set (omega arith) in
      let l4 : 4 < length (set (set (set (set w 0 0) 1 0) 2 p) 3 l) = simp length-set (omega arith) in
      let l5 : 5 < length (set (set (set (set (set w 0 0) 1 0) 2 p) 3 l) 4 0) = simp length-set (omega arith) in
      (simp (get_or-set_other, get_or-set_same), simp (get_or-set_other, get_or-set_same), simp (get_or-set_other, get_or-set_same), simp (get_or-set_other, get_or-set_same), simp (get_or-set_other, get_or-set_same), simp get_or-set_same)

  board-loaded : Loaded (board_words w p l)
  board-loaded =
      let e = board-words in
      let e0 = e.0 in
      let e1 = e.1 in
      record {
        long = omega (arith, board-long);
        tasks = omega arith;
        links = omega arith;
        processors = omega (arith, e.2);
        unpacks = omega (arith, e.4);
        stores = λ t h. absurd (omega arith);
        source = λ t h. absurd (omega arith);
        target = λ t h. absurd (omega arith);
        costs = λ t h. absurd (omega arith);
        sizes = λ t h. absurd (omega arith);
      }

  board-sheet : sheet_in (board_words w p l) ≡ record { processors = p; limit = l; unpacking = 0; cube = false; tasks = []; links = [] }
  unfolding sheet_in
  board-sheet =
      let e = board-words in
      let tasks : listed (get_or (board_words w p l) 0 0) (task_in (board_words w p l)) ≡ [] = ap (λ (n : ℕ). listed n (task_in (board_words w p l))) e.0 ∙ listed-zero _ in
      let links : listed (get_or (board_words w p l) 1 0) (link_in (board_words w p l)) ≡ [] = ap (λ (n : ℕ). listed n (link_in (board_words w p l))) e.1 ∙ listed-zero _ in
      λ x. record { processors = e.2 x; limit = e.3 x; unpacking = e.4 x; cube = eqb (e.5 x) 1; tasks = tasks x; links = links x }

  pub board-loaded-of : LoadedOf (record { processors = p; limit = l; unpacking = 0; cube = false; tasks = []; links = [] }) w (board_words w p l)
  board-loaded-of = record { long = board-long; loaded = board-loaded; sheet = board-sheet }

-- a word of the board behind the limit is another
board-loaded-else : (w v : List ℕ) (at : ℕ) → unpacking_at ≤ at → at < tasks_at → ((i : ℕ) → i ≢ at → get_or v i 0 ≡ get_or w i 0) → length v ≡ length w → get_or v unpacking_at 0 < 65536 → Loaded w → Loaded v
board-loaded-else w v at low board away long unpacks h =
    let n : get_or v task_count_at 0 ≡ get_or w task_count_at 0 = away task_count_at (λ q. omega arith) in
    let m : get_or v link_count_at 0 ≡ get_or w link_count_at 0 = away link_count_at (λ q. omega arith) in
    let task = board-task w v at board away in
    let link = board-link w v at board away in
    record {
      long = omega (arith, h.long);
      tasks = omega (arith, h.tasks);
      links = omega (arith, h.links);
      processors = omega (arith, away processors_at (λ q. omega arith), h.processors);
      unpacks = unpacks;
      stores = λ t k. omega (arith, ap (λ (x : Task). x.store) (task t), h.stores t (omega arith));
      source = λ l k. omega (arith, ap (λ (x : Link). x.source) (link l), h.source l (omega arith));
      target = λ l k. omega (arith, ap (λ (x : Link). x.target) (link l), h.target l (omega arith));
      costs = λ l k. omega (arith, ap (λ (x : Link). x.cost) (link l), h.costs l (omega arith));
      sizes = λ l k. omega (arith, ap (λ (x : Link). x.bytes) (link l), h.sizes l (omega arith));
    }

-- another time for unpacking
pub unpacking-loaded : (w : List ℕ) (u : ℕ) → Loaded w → u < 65536 → Loaded (unpacking_words w u)
unpacking-loaded w u h small =
    board-loaded-else w (unpacking_words w u) unpacking_at (omega arith) (omega arith) (unpacking-away w u h.long) (unpacking-long w u h.long)
    (omega (arith, unpacking-here w u h.long)) h

pub unpacking-loaded-of : {s : Sheet} {w v : List ℕ} (u : ℕ) → LoadedOf s w v → u < 65536
    → LoadedOf (record { processors = s.processors; limit = s.limit; unpacking = u; cube = s.cube; tasks = s.tasks; links = s.links }) w (unpacking_words v u)
unpacking-loaded-of {s} {w} {v} u h small =
    record {
      long = unpacking-long v u h.loaded.long ∙ h.long;
      loaded = unpacking-loaded v u h.loaded small;
      sheet =
          sheet-unpacking v u h.loaded.long
          ∙ ap (λ (x : Sheet). record { processors = x.processors; limit = x.limit; unpacking = u; cube = x.cube; tasks = x.tasks; links = x.links }) h.sheet;
    }

-- a cube
pub cube-loaded : (w : List ℕ) → Loaded w → Loaded (cube_words w)
cube-loaded w h =
    board-loaded-else w (cube_words w) cube_at (omega arith) (omega arith) (cube-away w h.long) (cube-long w h.long)
    (omega (arith, cube-away w h.long unpacking_at (λ q. omega arith), h.unpacks)) h

pub cube-loaded-of : {s : Sheet} {w v : List ℕ} → LoadedOf s w v
    → LoadedOf (record { processors = s.processors; limit = s.limit; unpacking = s.unpacking; cube = true; tasks = s.tasks; links = s.links }) w (cube_words v)
cube-loaded-of {s} {w} {v} h =
    record {
      long = cube-long v h.loaded.long ∙ h.long;
      loaded = cube-loaded v h.loaded;
      sheet =
          sheet-cube v h.loaded.long
          ∙ ap (λ (x : Sheet). record { processors = x.processors; limit = x.limit; unpacking = x.unpacking; cube = true; tasks = x.tasks; links = x.links }) h.sheet;
    }

-- without links, the rows of the tasks are blank
joins-none : (s : Sheet) (a b : ℕ) → link_count s ≡ 0 → joins s a b ≡ false
unfolding joins
joins-none s a b e = ap (λ (n : ℕ). any n (joins_by s a b)) e ∙ any-zero _

module _ {w v : List ℕ} {n : ℕ} (h : Loaded w) (e : get_or w 0 0 ≡ n) (none : get_or w 1 0 ≡ 0) (b : Blanked (pairs_at + 8 * n) w v) where
  low_same : (i : ℕ) → i < pairs_at → get_or v i 0 ≡ get_or w i 0
  low_same i l = b.low i (omega arith)

  pub blank-sheet : sheet_in v ≡ sheet_in w
  blank-sheet = sheet-frame w v low_same h.tasks h.links

  no-pair : (x y : ℕ) → x < n → y < n → pair_in v x y ≡ false
  unfolding pair_in
  no-pair x y l k =
      let z : get_or v (pairs_at + (8 * x + y / 32)) 0 ≡ 0 = b.zeros (pairs_at + (8 * x + y / 32)) (omega arith) (omega (arith, h.tasks)) in
      ap (λ (u : ℕ). eqb (bit_at u (y % 32)) 1) z ∙ ap (λ (u : ℕ). eqb u 1) (bit-none (y % 32))

  pub blank-filling : Filling v
  blank-filling =
      let m : get_or v 0 0 ≡ n = low_same 0 (omega arith) ∙ e in
      record {
        loaded = loaded-frame w v low_same h b.long;
        pairs = λ x y l k. no-pair x y (omega arith) (omega arith) ∙ sym (joins-none (sheet_in v) x y (links-in v ∙ low_same 1 (omega arith) ∙ none));
      }
