-- The end and the store of the processor that t goes on, which is open then, and the links into t that wait no more.
use Prim.Native.Nat.{ℕ, ◌+◌, ◌-◌, ◌≤◌, ◌<◌}
use mathlib.Core.Bool.{not}
use mathlib.Core.Path.{◌≡◌, refl, ap, sym, ◌∙◌, subst}
use mathlib.Core.List.{List}
use native.Mathlib.Omega.{arith}
use native.Mathlib.Decide.{ℕ_discrete}
use borrow.Author.Tests.{eq-eqb, ne_eqb}
use lib.ListN.{length, get_or, set, length-set}
use lib.Seq.{get_or-set_same, get_or-set_other}
use Rattle.folds.specs.Folds.{bit, both}
use Rattle.folds.proofs.Tests.{pick-le}
use Rattle.folds.proofs.Laws.{sum-le}
use Rattle.sheet.specs.Sheet.{Sheet, task_count, link_count, source_of, target_of, bytes_of, store_of}
use Rattle.sheet.specs.Tables.{Ranged}
use Rattle.planner.specs.Schedule.{Schedule, put, stands}
use Rattle.planner.specs.Placing.{end_of, store_by, bytes_by, store_on, is_open}
use Rattle.adjacency.specs.Frames.{Only}
use Rattle.adjacency.proofs.Frames.{only_none, only_set}
use Rattle.arrivals.specs.Layout.{bytes_from, ends_from, stores_from, open_from, waiting_from, turn_bytes_from, turn_links_from, kept_length}
use Rattle.arrivals.specs.Kept.{known, Gathered, Counted, Surveyed, Ends}
use Rattle.arrivals.specs.Steps.{Placeable, Released, Enough}
use Rattle.arrivals.proofs.Placing.{end-put, open-now, open-else, store-put, store-else, waits-put}

store-small : (s : Sheet) (σ : Schedule) (k : ℕ) → Ranged s → store_on s σ k ≤ 83884800
unfolding store_on store_by bytes_by
store-small s σ k ranged =
    omega (
      arith,
      ranged.few_tasks,
      ranged.few_links,
      sum-le (task_count s) 65535 (store_by s σ k) (λ u h. pick-le (stands σ u k) (store_of s u) 0 65535 (omega (arith, ranged.stores u h)) (omega arith)),
      sum-le (link_count s) 65535 (bytes_by s σ k) (λ l h. pick-le (both (stands σ (target_of s l) k) (not (stands σ (source_of s l) k))) (bytes_of s l) 0 65535 (omega (arith, ranged.sizes l h)) (omega arith)),
    )

module _ (s : Sheet) (σ : Schedule) (w : List ℕ) (t k a f : ℕ) (long : kept_length ≤ length w) (g : Placeable s σ t k) (late : end_of s σ k ≤ f)
    (gathered : Gathered s w) (counted : Counted s σ (known s σ) w) (surveyed : Surveyed s σ t w) (ends : Ends s σ w) where
  -- the store of k with t there
  pub store-with : get_or w (stores_from + k) 0 + store_of s t + get_or w (bytes_from + t) 0 ≡ store_on s (put σ t k a f) k + get_or w (turn_bytes_from + k) 0
  store-with = rw (ends.stores k g.on, gathered.bytes t g.task, surveyed.bytes k g.on) (sym (store-put s σ t k a f g))

  module _ (x : ℕ) (ex : x ≡ store_on s (put σ t k a f) k) where
    abbrev ended : List ℕ
    ended = set w (ends_from + k) f

    abbrev stored : List ℕ
    stored = set ended (stores_from + k) x

    abbrev new : List ℕ
    new = set stored (open_from + k) 1

    settled_only : Only ends_from waiting_from w new
    settled_only =
        let h = g.on in
        only_set (open_from + k) 1 (omega arith) (omega arith)
        (only_set (stores_from + k) x (omega arith) (omega arith) (only_set (ends_from + k) f (omega arith) (omega arith) (only_none ends_from waiting_from w)))

    -- opening k leaves ends and stores
    before-open : (i : ℕ) → i < open_from → get_or new i 0 ≡ get_or stored i 0
    before-open i h = get_or-set_other stored (open_from + k) i 1 0 (omega arith)

    end-at : (j : ℕ) → j < 16 → Dec (j ≡ k) → get_or new (ends_from + j) 0 ≡ end_of s (put σ t k a f) j
    end-at j h (yes e) =
        let p = g.on in
        rw e (before-open (ends_from + k) (omega arith) ∙ get_or-set_other ended (stores_from + k) (ends_from + k) x 0 (omega arith) ∙ get_or-set_same w (ends_from + k) f 0 (omega arith)
        ∙ sym (end-put s σ t k a f g k p ∙ rw (eq-eqb k k refl) (omega arith)))
    end-at j h (no e) =
        let p = g.on in
        before-open (ends_from + j) (omega arith) ∙ get_or-set_other ended (stores_from + k) (ends_from + j) x 0 (omega arith) ∙ get_or-set_other w (ends_from + k) (ends_from + j) f 0 (λ q. e (omega arith)) ∙ ends.ends j h
        ∙ sym (end-put s σ t k a f g j h ∙ rw (ne_eqb k j (λ q. e (sym q))) (omega arith))

    store_at_lem : (j : ℕ) → j < 16 → Dec (j ≡ k) → get_or new (stores_from + j) 0 ≡ store_on s (put σ t k a f) j
    store_at_lem j h (yes e) =
        let p = g.on in
        rw e (before-open (stores_from + k) (omega arith) ∙ get_or-set_same ended (stores_from + k) x 0 (simp length-set (omega arith)) ∙ ex)
    store_at_lem j h (no e) =
        let p = g.on in
        before-open (stores_from + j) (omega arith) ∙ get_or-set_other ended (stores_from + k) (stores_from + j) x 0 (λ q. e (omega arith)) ∙ get_or-set_other w (ends_from + k) (stores_from + j) f 0 (omega arith) ∙ ends.stores j h
        ∙ sym (store-else s σ t k a f g j h e)

    open_at : (j : ℕ) → j < 16 → Dec (j ≡ k) → get_or new (open_from + j) 0 ≡ bit (is_open s (put σ t k a f) j)
    open_at j h (yes e) =
        let p = g.on in
        rw e (get_or-set_same stored (open_from + k) 1 0 (simp length-set (omega arith)) ∙ sym (ap bit (open-now s σ t k a f g)))
    open_at j h (no e) =
        let p = g.on in
        get_or-set_other stored (open_from + k) (open_from + j) 1 0 (λ q. e (omega arith)) ∙ get_or-set_other ended (stores_from + k) (open_from + j) x 0 (omega arith) ∙ get_or-set_other w (ends_from + k) (open_from + j) f 0 (omega arith)
        ∙ ends.opens j h ∙ sym (ap bit (open-else s σ t k a f g j h e))

    settled-ends : Ends s (put σ t k a f) new
    settled-ends = record { ends = λ j h. end-at j h (ℕ_discrete j k); stores = λ j h. store_at_lem j h (ℕ_discrete j k); opens = λ j h. open_at j h (ℕ_discrete j k) }

  -- as the code writes it
  pub settled-by : (w₂ : List ℕ) {f₁ x y z v r : ℕ} → f₁ ≡ f → x ≡ get_or w (stores_from + k) 0 → y ≡ store_of s t → z ≡ get_or w (bytes_from + t) 0 → v ≡ get_or w (turn_bytes_from + k) 0
      → r ≡ x + y + z - v → w₂ ≡ set (set (set w (ends_from + k) f₁) (stores_from + k) r) (open_from + k) 1 → Only ends_from waiting_from w w₂ × Ends s (put σ t k a f) w₂
  settled-by w₂ {f₁} {x} {y} {z} {v} {r} ef ex ey ez ev er e =
      let er' : r ≡ store_on s (put σ t k a f) k = omega (arith, store-with) in
      let e' : w₂ ≡ set (set (set w (ends_from + k) f) (stores_from + k) r) (open_from + k) 1 = e ∙ ap (λ (i : ℕ). set (set (set w (ends_from + k) i) (stores_from + k) r) (open_from + k) 1) ef in
      (subst (Only ends_from waiting_from w) (sym e') (settled_only r er'), subst (Ends s (put σ t k a f)) (sym e') (settled-ends r er'))

  pub settled-sub : {x y z v : ℕ} → x ≡ get_or w (stores_from + k) 0 → y ≡ store_of s t → z ≡ get_or w (bytes_from + t) 0 → v ≡ get_or w (turn_bytes_from + k) 0 → (v ≤ x + y + z) × (x + y + z - v ≤ 83884800)
  settled-sub ex ey ez ev =
      let q = store-with in
      let b = store-small s (put σ t k a f) k g.ranged in
      (omega arith, omega arith)

  pub enough : Enough w
  enough = record { most = λ j h. omega (arith, surveyed.number j h, counted.pending j h, waits-put s σ t k a f g j) }

-- the links that wait, processor by processor
pub released-none : (w : List ℕ) → Released 0 w w
released-none w = record { long = refl; low = λ i h. refl; high = λ i h. refl; pending = λ i h. absurd (omega arith) }

pub released-more : {j x y r : ℕ} {w w' : List ℕ} → kept_length ≤ length w → j < 16 → x ≡ get_or w' (waiting_from + j) 0 → y ≡ get_or w' (turn_links_from + j) 0 → r ≡ x - y → Enough w → Released j w w'
    → Released (j + 1) w (set w' (waiting_from + j) r)
released-more {j} {x} {y} {r} {w} {w'} long h ex ey er enough d =
    record {
      long = length-set w' (waiting_from + j) r ∙ d.long;
      low = λ i k. get_or-set_other w' (waiting_from + j) i r 0 (omega arith) ∙ d.low i k;
      high = λ i k. get_or-set_other w' (waiting_from + j) i r 0 (omega arith) ∙ d.high i (omega arith);
      pending = λ i k. at i k (ℕ_discrete i j);
    }
  where
    at : (i : ℕ) → i < j + 1 → Dec (i ≡ j) → get_or (set w' (waiting_from + j) r) (waiting_from + i) 0 + get_or w (turn_links_from + i) 0 ≡ get_or w (waiting_from + i) 0
    at i k (yes e) =
        rw (e, get_or-set_same w' (waiting_from + j) r 0 (omega (arith, d.long)))
        (omega (arith, enough.most j h, d.high (waiting_from + j) (omega arith), d.high (turn_links_from + j) (omega arith)))
    at i k (no e) = rw (get_or-set_other w' (waiting_from + j) (waiting_from + i) r 0 (λ q. e (omega arith))) (d.pending i (omega arith))

pub released-sub : {j x y : ℕ} {w w' : List ℕ} → j < 16 → x ≡ get_or w' (waiting_from + j) 0 → y ≡ get_or w' (turn_links_from + j) 0 → Enough w → Released j w w' → y ≤ x
released-sub {j} h ex ey enough d = omega (arith, enough.most j h, d.high (waiting_from + j) (omega arith), d.high (turn_links_from + j) (omega arith))

pub released-at : {j : ℕ} {w w' : List ℕ} → j ≡ 16 → Released j w w' → Released 16 w w'
released-at {j} {w} {w'} e d = subst (λ (x : ℕ). Released x w w') e d
