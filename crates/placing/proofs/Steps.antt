-- What the greatest key of each placing step gives, and the steps one after the other.
use Prim.Native.Nat.{ℕ, zero, suc, ◌+◌, ◌<◌, ◌≤◌}
use mathlib.Core.Path.{◌≡◌, refl, ap, ap₂, sym, ◌∙◌}
use mathlib.Core.Bool.{Bool, true, false, not, true≢false}
use mathlib.Core.List.{List}
use native.Mathlib.Omega.{arith}
use native.Mathlib.Decide.{dec_lt}
use lib.ListN.{get_or}
use mathlib.Core.Option.{Option, none, some}
use borrow.Author.Tests.{le-leb, lt-leb, eq-eqb}
use lib.Dec.{eqb, ltb, leb}
use Rattle.folds.specs.Folds.{pick, bit, both, greatest, any, sum, first, leading, least, or_else}
use Rattle.folds.proofs.Tests.{both_false, parts-both}
use Rattle.folds.proofs.Laws.{any-each, greatest-le}
use Rattle.sheet.specs.Sheet.{Sheet, link_count}
use Rattle.sheet.specs.Tables.{sheet_in}
use Rattle.schedule.specs.Layout.{schedule_in}
use Rattle.planner.specs.Schedule.{Schedule}
use Rattle.planner.specs.Placing.{ready_arrival, end_of, start_on, fits, holds_predecessor, barred, is_open, spent}
use Rattle.planner.specs.Planner.{may_join, join, may_take, idle, may_open, another, may_share, share, may_crowd, last_resort, choice}
use Rattle.placing.specs.Ranks.{low_key, high_key, processor_of, join_key, idle_key, last_key, may_be_idle}
use Rattle.placing.specs.Guards.{Bars, JoinBars}
use Rattle.placing.specs.Choosing.{Choosing, due_by}
use Rattle.placing.specs.declared.Senders.TheVariants.{All}
use Rattle.placing.proofs.Spent.{spent-more}
use Rattle.placing.proofs.Ranks.{least-by-key, latest-by-key}
use Rattle.arrivals.specs.Layout.{ends_from, open_from, waiting_from}
use Rattle.arrivals.specs.Kept.{Ends, Kept}
use Rattle.placing.specs.Sets.{closed_in}

module _ (s : Sheet) (σ : Schedule) (t : ℕ) where
  abbrev guard : Schedule → ℕ → ℕ → Bool
  guard = barred s

  module _ (k : ℕ) where
    pub join-key-is : {x a bars r : ℕ} {fit early may : Bool} → k < 16 → JoinBars s σ t bars → holds_predecessor s σ t k ≡ true → x ≡ start_on s σ t k → a ≡ ready_arrival s σ t → fit ≡ fits s σ t k → early ≡ both (not (eqb k bars)) (ltb x a)
        → may ≡ both fit early → r ≡ pick may (low_key x k) 0 → r ≡ join_key s σ t k
    unfolding may_join join_key
    join-key-is {x} {a} {bars} h b held ex ea ef ee em er =
        er ∙ rw held (ap₂ (λ (m : Bool) (y : ℕ). pick m (low_key y k) 0) (em ∙ ap₂ both ef (ee ∙ ap₂ both (ap not (b.is k h held)) (ap₂ ltb ex ea))) ex)

    -- 0 where k holds no predecessor
    pub join-none : holds_predecessor s σ t k ≡ false → join_key s σ t k ≡ 0
    unfolding may_join join_key
    join-none e = rw e

    pub idle-late : {x a : ℕ} → x ≡ end_of s σ k → a ≡ ready_arrival s σ t → a < x → 0 ≡ idle_key s σ t k
    unfolding may_take idle_key
    idle-late {x} {a} ex ea l = sym (rw (← ex, ← ea, lt-leb x a l, both_false (both (is_open s σ k) (fits s σ t k))))

    pub idle-waits : spent s σ t k ≡ false → 0 ≡ idle_key s σ t k
    unfolding may_take idle_key
    idle-waits e = sym (rw (e, both_false (leb (end_of s σ k) (ready_arrival s σ t)), both_false (both (is_open s σ k) (fits s σ t k))))

    module _ {x a : ℕ} (ex : x ≡ end_of s σ k) (ea : a ≡ ready_arrival s σ t) (l : x ≤ a) where
      take-is : may_take s guard σ t k ≡ both (both (is_open s σ k) (fits s σ t k)) (spent s σ t k)
      unfolding may_take
      take-is = rw (← ex, ← ea, le-leb x a l)

      pub idle-full : spent s σ t k ≡ true → both (is_open s σ k) (fits s σ t k) ≡ false → 0 ≡ idle_key s σ t k
      unfolding idle_key
      idle-full e f = sym (rw (take-is, f))

      pub idle-may : {r : ℕ} → spent s σ t k ≡ true → both (is_open s σ k) (fits s σ t k) ≡ true → r ≡ high_key x k → r ≡ idle_key s σ t k
      unfolding idle_key
      idle-may e f er = er ∙ rw (take-is, f, e, ex)

    pub last-key-is : {x r : ℕ} {fit : Bool} → x ≡ start_on s σ t k → fit ≡ both (is_open s σ k) (fits s σ t k) → r ≡ pick fit (low_key x k) 0 → r ≡ last_key s σ t k
    unfolding last_key may_crowd
    last-key-is ex ef er = er ∙ ap₂ (λ (m : Bool) (y : ℕ). pick m (low_key y k) 0) ef ex

  -- the greatest key gives the step's processor
  module _ (few : σ.opened ≤ 16) {g : ℕ} where
    pub join_is : ((k : ℕ) → k < σ.opened → start_on s σ t k < 4294967296) → g ≡ greatest σ.opened (join_key s σ t) → processor_of g ≡ join s guard σ t
    unfolding join join_key
    join_is small e = least-by-key σ.opened few (may_join s guard σ t) (start_on s σ t) small e

    pub idle-is : g ≡ greatest σ.opened (idle_key s σ t) → processor_of g ≡ idle s guard σ t
    unfolding idle idle_key
    idle-is e = latest-by-key σ.opened few (may_take s guard σ t) (end_of s σ) e

    pub last-is : ((k : ℕ) → k < σ.opened → start_on s σ t k < 4294967296) → g ≡ greatest σ.opened (last_key s σ t) → processor_of g ≡ last_resort s guard σ t
    unfolding last_resort last_key
    last-is small e = least-by-key σ.opened few (may_crowd s guard σ t) (start_on s σ t) small e

  -- the amended step
  pub share-is : (k : ℕ) {x a bars : ℕ} {fit early may : Bool} → k < 16 → Bars s σ t bars → x ≡ start_on s σ t k → a ≡ ready_arrival s σ t → fit ≡ both (is_open s σ k) (fits s σ t k) → early ≡ both (not (eqb k bars)) (leb x a)
      → may ≡ both fit early → may ≡ may_share s guard σ t k
  unfolding may_share
  share-is k h b ex ea ef ee em = em ∙ ap₂ both ef (ee ∙ ap₂ both (ap not (b.is k h)) (ap₂ leb ex ea))

  -- step 3, as the code tests it
  pub open-taken : (k : ℕ) {b : Bool} → b ≡ is_open s σ k → b ≡ true → false ≡ may_open s guard σ t k
  unfolding may_open
  open-taken k eb e = rw (← eb, e)

  pub open_free : (k : ℕ) {b fit : Bool} → b ≡ is_open s σ k → b ≡ false → fit ≡ fits s σ t k → fit ≡ may_open s guard σ t k
  unfolding may_open
  open_free k eb e ef = ef ∙ rw (← eb, e)

  -- where step 3 would open a processor, and where it would not
  module _ {n : ℕ} (o : some n ≡ another s guard σ t) where
    share-first : share s guard σ t ≡ first σ.opened (may_share s guard σ t)
    unfolding share
    share-first = rw (← o)

    pub shared : {k : ℕ} → some k ≡ first σ.opened (may_share s guard σ t) → some k ≡ or_else (share s guard σ t) (another s guard σ t)
    shared e = rw (share-first, ← e)

    pub opened-next : none ≡ first σ.opened (may_share s guard σ t) → some n ≡ or_else (share s guard σ t) (another s guard σ t)
    opened-next e = rw (share-first, ← e) o

    -- step 4 is not tried
    pub before_last : {c : Option ℕ} → c ≡ or_else (share s guard σ t) (another s guard σ t) → c ≡ or_else (share s guard σ t) (or_else (another s guard σ t) (last_resort s guard σ t))
    before_last e = e ∙ rw (← o) (go (share s guard σ t))
      where
        go : (c : Option ℕ) → or_else c (some n) ≡ or_else c (or_else (some n) (last_resort s guard σ t))
        go none = refl
        go (some k) = refl

  pub last-left : {c : Option ℕ} → none ≡ another s guard σ t → c ≡ last_resort s guard σ t → c ≡ or_else (share s guard σ t) (or_else (another s guard σ t) (last_resort s guard σ t))
  unfolding share
  last-left o e = rw (← o) e

  pub choice-join : {k : ℕ} → some k ≡ join s guard σ t → some k ≡ choice s guard true σ t
  unfolding choice
  choice-join a = rw (← a)

  pub choice-idle : {k : ℕ} → none ≡ join s guard σ t → some k ≡ idle s guard σ t → some k ≡ choice s guard true σ t
  unfolding choice
  choice-idle a b = rw (← a, ← b)

  pub choice-rest : {c : Option ℕ} → none ≡ join s guard σ t → none ≡ idle s guard σ t → c ≡ or_else (share s guard σ t) (or_else (another s guard σ t) (last_resort s guard σ t)) → c ≡ choice s guard true σ t
  unfolding choice
  choice-rest a b e = rw (← a, ← b) e

-- where no processor may be idle, step 2 gives none
module _ (w own : List ℕ) (t : ℕ) (c : Choosing w own t) {a d : ℕ} (ea : a ≡ ready_arrival (sheet_in w) (schedule_in w) t) (ed : d ≡ sum (link_count (sheet_in w)) (due_by (sheet_in w) (schedule_in w) t All)) where
  no_key : (k : ℕ) → k < 16 → may_be_idle own a d k ≡ false → idle_key (sheet_in w) (schedule_in w) t k ≡ 0
  unfolding may_be_idle
  no_key k h e = go (dec_lt d (get_or own (waiting_from + k) 0)) (dec_lt a (get_or own (ends_from + k) 0))
    where
      go : Dec (d < get_or own (waiting_from + k) 0) → Dec (a < get_or own (ends_from + k) 0) → idle_key (sheet_in w) (schedule_in w) t k ≡ 0
      go (yes l) b = sym (idle-waits (sheet_in w) (schedule_in w) t k (sym (spent-more w own t k c h refl ed l)))
      go (no l) (yes b) = sym (idle-late (sheet_in w) (schedule_in w) t k (c.kept.caches.ends.ends k h) ea b)
      go (no l) (no b) = absurd (true≢false (sym (parts-both (leb (get_or own (ends_from + k) 0) a) (leb (get_or own (waiting_from + k) 0) d) (le-leb (get_or own (ends_from + k) 0) a (omega arith)) (le-leb (get_or own (waiting_from + k) 0) d (omega arith))) ∙ e))

  -- as the code tests it
  pub not-idle : (k : ℕ) → k < 16 → {x p : ℕ} {b : Bool} → x ≡ end_of (sheet_in w) (schedule_in w) k → p ≡ get_or own (waiting_from + k) 0 → b ≡ both (leb x a) (leb p d) → b ≡ false → 0 ≡ idle_key (sheet_in w) (schedule_in w) t k
  unfolding may_be_idle
  not-idle k h ex ep eb e = sym (no_key k h (ap₂ both (ap (λ (y : ℕ). leb y a) (c.kept.caches.ends.ends k h ∙ sym ex)) (ap (λ (y : ℕ). leb y d) (sym ep)) ∙ sym eb ∙ e))

  pub none-idle : {n : ℕ} → n ≡ (schedule_in w).opened → any n (may_be_idle own a d) ≡ false → none ≡ idle (sheet_in w) (barred (sheet_in w)) (schedule_in w) t
  none-idle {n} en e =
      let few = c.kept.few_opened in
      idle-is (sheet_in w) (schedule_in w) t few {g = 0}
      (omega (
        arith,
        greatest-le (schedule_in w).opened (idle_key (sheet_in w) (schedule_in w) t) 0
            (λ k h. omega (arith, no_key k (omega arith) (any-each n (may_be_idle own a d) e k (omega arith)))),
      ))

-- where no processor of the board is closed, step 3 gives none
none_leads : (n : ℕ) (p : ℕ → Bool) (a : ℕ → ℕ → Bool) → ((i : ℕ) → i < n → p i ≡ false) → none ≡ leading n p a
unfolding leading
none_leads zero p a h = refl
none_leads (suc n) p a h = rw (h n (omega arith)) (none_leads n p a (λ i l. h i (omega arith)))

pub none-opens : (w own : List ℕ) (t : ℕ) → Kept w own → {n : ℕ} → n ≡ (sheet_in w).processors → n ≤ 16 → any n (closed_in own) ≡ false → none ≡ another (sheet_in w) (barred (sheet_in w)) (schedule_in w) t
unfolding another least may_open closed_in
none-opens w own t kept {n} en few e =
    none_leads (sheet_in w).processors (may_open (sheet_in w) (barred (sheet_in w)) (schedule_in w) t) _
    (λ k l. go k (omega arith) (is_open (sheet_in w) (schedule_in w) k) refl (any-each n (closed_in own) e k (omega arith)))
  where
    go : (k : ℕ) → k < 16 → (b : Bool) → is_open (sheet_in w) (schedule_in w) k ≡ b → eqb (get_or own (open_from + k) 0) 0 ≡ false → both (not (is_open (sheet_in w) (schedule_in w) k)) (fits (sheet_in w) (schedule_in w) t k) ≡ false
    go k l true q f = rw q
    go k l false q f = absurd (true≢false (sym (eq-eqb (get_or own (open_from + k) 0) 0 (kept.caches.ends.opens k l ∙ ap bit q)) ∙ f))

-- whether a processor is open, by what is kept
pub open_is : {s : Sheet} {σ : Schedule} {own : List ℕ} (k : ℕ) {x : ℕ} → Ends s σ own → k < 16 → x ≡ get_or own (open_from + k) 0 → eqb x 1 ≡ is_open s σ k
open_is {s} {σ} k ends h e = ap (λ (n : ℕ). eqb n 1) (e ∙ ends.opens k h) ∙ go (is_open s σ k)
  where
    go : (b : Bool) → eqb (bit b) 1 ≡ b
    go true = refl
    go false = refl
