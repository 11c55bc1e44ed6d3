-- The tables while a sheet is made: with a task more, and with a link tried.
use Rattle.std.proofs.Common.{◌≡◌, ℕ, zero, suc, ◌+◌, ◌*◌, ◌<◌, ◌≤◌, Bool, true, false, ltb, List, [], ◌∷◌, ◌++◌, length, get_or, sym, refl, ap, ◌∙◌, subst, ap₂, add-one, arith, length-append, le-ltb, lt-ltb}
use Rattle.folds.proofs.Loops.{listed-one, listed-zero}
use Rattle.folds.proofs.Tests.{both_false}
use Rattle.workspace.specs.Area.{fixed, pairs_at}
use Rattle.sheet.specs.Sheet.{Sheet, Task, Link, task_count, link_count}
use Rattle.sheet.specs.Format.{joins}
use Rattle.sheet.specs.Tables.{sheet_in, LoadedOf, Filling, Blanked, pair_in, task_words, link_words, pair_words}
use Rattle.sheet.proofs.Rows.{tasks-in, links-in}
use Rattle.sheet.proofs.Fills.{task-away, task-long, task-count, sheet-task, pair-away, pair-long, link-long, link-away}
use Rattle.sheet.proofs.Joins.{task-loaded, link-sheet, filling-link, blank-sheet, blank-filling}
use Rattle.generator.specs.Draw.{start_of, after}
use Rattle.generator.specs.Load.{task_behind, try_behind, task_at, try_at, with_link, is_new, tried, tasks_from, sheet_from}
use Rattle.generator.specs.Filled.{Tasked, TriedIn, Trying}
use Rattle.generator.specs.declared.draws.Draws.{Draws}
use Rattle.generator.proofs.Steps.{after_none, task-at, try-at, states-on}

-- a board without tasks
pub tasked-none : (seed p l : ℕ) (w₀ w : List ℕ) (d : Draws) → LoadedOf (record { processors = p; limit = l; unpacking = 0; cube = false; tasks = []; links = [] }) w₀ w → d ≡ start_of seed → Tasked seed p l 0 w w d
unfolding tasks_from task_count link_count
tasked-none seed p l w₀ w d h e =
    record {
      long = refl;
      loaded = h.loaded;
      tasks = sym (tasks-in w) ∙ ap task_count h.sheet;
      links = sym (links-in w) ∙ ap link_count h.sheet;
      sheet = h.sheet ∙ ap (λ (ts : List Task). record { processors = p; limit = l; unpacking = 0; cube = false; tasks = ts; links = [] }) (sym (listed-zero (task_at seed)));
      draws = e ∙ after_none (start_of seed);
    }

-- one task more
work-small : (d : Draws) → (task_behind d).work < 65536
unfolding task_behind
work-small d = omega arith

store-small : (d : Draws) → (task_behind d).store < 65536
unfolding task_behind
store-small d = omega arith

pub tasked-more : {seed p l i : ℕ} {w₀ w : List ℕ} {d : Draws} → Tasked seed p l i w₀ w d → i < 256 → (w' : List ℕ) (d' : Draws)
    → (d' ≡ after 2 d) × (w' ≡ task_words w i (task_behind d).work (task_behind d).store) → Tasked seed p l (i + 1) w₀ w' d'
unfolding tasks_from
tasked-more {seed} {p} {l} {i} {w₀} {w} {d} h few w' d' e =
    let x : ℕ = (task_behind d).work in
    let y : ℕ = (task_behind d).store in
    let long = h.loaded.long in
    let away = task-away w i x y long few in
    subst (λ (v : List ℕ). Tasked seed p l (i + 1) w₀ v d') (sym e.1)
    record {
      long = task-long w i x y long few ∙ h.long;
      loaded = task-loaded w i x y h.loaded h.tasks few (work-small d) (store-small d);
      tasks = task-count w i x y long few;
      links = away 1 (λ q. omega arith) (λ q. omega arith) ∙ h.links;
      sheet =
          sheet-task w i x y long few h.tasks (work-small d)
          ∙ ap₂ (λ (s : Sheet) (t : Task). record { processors = s.processors; limit = s.limit; unpacking = s.unpacking; cube = s.cube; tasks = s.tasks ++ t ∷ []; links = s.links }) h.sheet (task-at seed i d h.draws)
          ∙ ap (λ (ts : List Task). record { processors = p; limit = l; unpacking = 0; cube = false; tasks = ts; links = [] }) (sym (listed-one i (task_at seed)));
      draws = states-on 2 (2 * i) (2 * (i + 1)) (start_of seed) d d' h.draws e.0 (omega arith);
    }

-- all tasks, beside the words before the board
pub all-tasked : {seed p l i : ℕ} {v w : List ℕ} {d : Draws} (w₀ : List ℕ) (n : ℕ) → Tasked seed p l i v w d → length v ≡ length w₀ → i ≡ n → Tasked seed p l n w₀ w d
all-tasked {seed} {p} {l} {i} {v} {w} {d} w₀ n h e q =
    subst (λ (k : ℕ). Tasked seed p l k w₀ w d) q
    record { long = h.long ∙ e; loaded = h.loaded; tasks = h.tasks; links = h.links; sheet = h.sheet; draws = h.draws }

-- a link that is not added
module _ (s : Sheet) (x : Link) where
  pub tried_same : is_new s x ≡ false → tried s x ≡ s
  unfolding tried
  tried_same e = rw e

  pub tried-new : is_new s x ≡ true → tried s x ≡ with_link s x
  unfolding tried
  tried-new e = rw e

  pub not-later : x.target ≤ x.source → is_new s x ≡ false
  unfolding is_new
  not-later h = rw (le-ltb x.source x.target h)

  pub there : joins s x.source x.target ≡ true → is_new s x ≡ false
  unfolding is_new
  there e = rw e (both_false (ltb x.source x.target))

  pub is-new : x.source < x.target → joins s x.source x.target ≡ false → is_new s x ≡ true
  unfolding is_new
  is-new h e = rw (e, lt-ltb x.source x.target h)

pub left_alone : (w : List ℕ) (x : Link) → Filling w → is_new (sheet_in w) x ≡ false → TriedIn x w w
left_alone w x f e = record { long = refl; filling = f; tasks = refl; sheet = sym (tried_same (sheet_in w) x e) }

-- whether a link's pair is there
module _ (w : List ℕ) (x : Link) (f : Filling w) (source : x.source < get_or w 0 0) (target : x.target < get_or w 0 0) where
  pub joined_by : pair_in w x.source x.target ≡ joins (sheet_in w) x.source x.target
  joined_by = f.pairs x.source x.target source target

-- a link that is added
module _ (w : List ℕ) (m : ℕ) (x : Link) (f : Filling w) (count : m ≡ get_or w 1 0) (few : get_or w 1 0 < 1024) (source : x.source < get_or w 0 0) (target : x.target < get_or w 0 0)
    (cost : x.cost < 65536) (size : x.bytes < 65536) where
  pub added : x.source < x.target → pair_in w x.source x.target ≡ false → (v w' : List ℕ) → v ≡ pair_words w x.source x.target
      → w' ≡ link_words v m x.source x.target x.cost x.bytes → TriedIn x w w'
  added later clear v w' p q =
      let a : ℕ = x.source in
      let b : ℕ = x.target in
      let single : joins (sheet_in w) a b ≡ false = sym (joined_by w x f source target) ∙ clear in
      let long = f.loaded.long in
      let small-a : a < 256 = omega (arith, f.loaded.tasks) in
      let small_b : b < 256 = omega (arith, f.loaded.tasks) in
      let same : link_words (pair_words w a b) m a b x.cost x.bytes ≡ w' = sym (q ∙ ap (λ (u : List ℕ). link_words u m a b x.cost x.bytes) p) in
      let v-long : length (pair_words w a b) ≡ length w = pair-long w a b long small-a small_b in
      let v-fixed : fixed ≤ length (pair_words w a b) = omega arith in
      let m-few : m < 1024 = omega arith in
      subst (TriedIn x w) same
      record {
        long = link-long (pair_words w a b) m a b x.cost x.bytes v-fixed m-few ∙ v-long;
        filling = filling-link w m a b x.cost x.bytes f (sym count) m-few source target cost size single;
        tasks = link-away (pair_words w a b) m a b x.cost x.bytes v-fixed m-few 0 (λ r. omega arith) (λ r. omega arith) (λ r. omega arith) ∙ pair-away w a b long small-a small_b 0 (omega arith);
        sheet =
            link-sheet w m a b x.cost x.bytes f (sym count) m-few source target cost size
            ∙ sym (tried-new (sheet_in w) x (is-new (sheet_in w) x later single));
      }

-- the links of so many tries are no more than these
tried-few : (s : Sheet) (x : Link) (b : Bool) → is_new s x ≡ b → link_count (tried s x) ≤ link_count s + 1
unfolding link_count
tried-few s x true e = omega (arith, ap link_count (tried-new s x e), length-append s.links (x ∷ []))
tried-few s x false e = omega (arith, ap link_count (tried_same s x e))

pub few_links : (seed n p l j : ℕ) → link_count (sheet_from seed n p l j) ≤ j
unfolding sheet_from tasks_from link_count
few_links seed n p l zero = omega arith
few_links seed n p l (suc j) =
    let s = sheet_from seed n p l j in
    omega (arith, few_links seed n p l j, tried-few s (try_at seed n j) (is_new s (try_at seed n j)) refl)

-- the tasks, whose rows are blank
pub trying-none : {seed n p l : ℕ} {w₀ w : List ℕ} {d : Draws} → Tasked seed p l n w₀ w d → (v : List ℕ) → Blanked (pairs_at + 8 * n) w v → Trying seed n p l 0 v v d
unfolding sheet_from
trying-none {seed} {n} h v b =
    record {
      long = refl;
      filling = blank-filling h.loaded h.tasks h.links b;
      tasks = b.low 0 (omega arith) ∙ h.tasks;
      sheet = blank-sheet h.loaded h.tasks h.links b ∙ h.sheet;
      draws = h.draws ∙ ap (λ (k : ℕ). after k (start_of seed)) {x = 2 * n} {y = 2 * n + 4 * 0} (omega arith);
    }

-- one try more
pub trying-more : {seed n p l j : ℕ} {w₀ w : List ℕ} {d : Draws} → Trying seed n p l j w₀ w d → (w' : List ℕ) (d' : Draws)
    → (d' ≡ after 4 d) × TriedIn (try_behind n d) w w' → Trying seed n p l (j + 1) w₀ w' d'
unfolding sheet_from
trying-more {seed} {n} {p} {l} {j} {w₀} {w} {d} h w' d' e =
    record {
      long = e.1.long ∙ h.long;
      filling = e.1.filling;
      tasks = e.1.tasks ∙ h.tasks;
      sheet =
          e.1.sheet ∙ ap₂ tried h.sheet (try-at seed n j d h.draws)
          ∙ ap (λ (k : ℕ). sheet_from seed n p l k) (sym (add-one j));
      draws = states-on 4 (2 * n + 4 * j) (2 * n + 4 * (j + 1)) (start_of seed) d d' h.draws e.0 (omega arith);
    }

pub trying-few : {seed n p l j : ℕ} {w₀ w : List ℕ} {d : Draws} → Trying seed n p l j w₀ w d → get_or w 1 0 ≤ j
trying-few {seed} {n} {p} {l} {j} {w₀} {w} h = omega (arith, links-in w, ap link_count h.sheet, few_links seed n p l j)

-- all tries, beside the words before the board
pub all-tried : {seed n p l j : ℕ} {v w : List ℕ} {d : Draws} (w₀ : List ℕ) (m : ℕ) → Trying seed n p l j v w d → length v ≡ length w₀ → j ≡ m → LoadedOf (sheet_from seed n p l m) w₀ w
all-tried {seed} {n} {p} {l} w₀ m h e q = record { long = h.long ∙ e; loaded = h.filling.loaded; sheet = h.sheet ∙ ap (sheet_from seed n p l) q }
