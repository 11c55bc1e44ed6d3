-- The idle test by counts: a processor is spent for t if as many links from it wait as lead from it to successors of t.
use Prim.Native.Nat.{ℕ, zero, suc, ◌+◌, ◌*◌, ◌/◌, ◌%◌, ◌^◌, ◌≤◌, ◌<◌}
use mathlib.Core.Bool.{Bool, true, false, not, true≢false}
use mathlib.Core.Path.{◌≡◌, refl, ap, sym, ◌∙◌, subst}
use mathlib.Core.Logic.{◌≢◌}
use mathlib.Core.List.{List}
use native.Mathlib.Omega.{arith}
use native.Mathlib.Decide.{ℕ_discrete}
use borrow.Author.Tests.{eq-eqb, ne_eqb, eqb-true}
use lib.ListN.{get_or}
use lib.Dec.{eqb}
use Rattle.folds.specs.Folds.{pick, both, either, sum}
use Rattle.folds.proofs.Tests.{both-parts}
use Rattle.folds.proofs.Laws.{sum_zeros, sum-cong, sum_mono, sum-swap, all-eqb, none_any}
use Rattle.sheet.specs.Sheet.{Sheet, task_count, link_count, source_of, target_of}
use Rattle.sheet.specs.Tables.{sheet_in, Ranged}
use Rattle.planner.specs.Schedule.{Schedule, placed, stands}
use Rattle.planner.specs.Placing.{follows_by, follows, spent_by, spent}
use Rattle.planner.proofs.Ready.{ready-free}
use Rattle.schedule.specs.Layout.{schedule_in}
use Rattle.arrivals.specs.Layout.{seen_from, waiting_from, packed_from}
use Rattle.arrivals.specs.Kept.{counted_by, into, into_from, waits, one_by, known, four_of, Single, Closed, Counted}
use Rattle.arrivals.proofs.Counts.{sum-single, counts-from-le}
use Rattle.arrivals.proofs.Placing.{stands-placed}
use Rattle.arrivals.proofs.Few.{few-from}
use Rattle.arrivals.proofs.Fours.{four-byte, four-zero}
use Rattle.arrivals.proofs.Links.{few-counted}
use Rattle.placing.specs.Choosing.{Choosing, known_into, due_by, OnBoard, four_in, Dues}
use Rattle.placing.specs.declared.Counts.{Counts}
use Rattle.placing.specs.declared.Senders.{Senders}
use Rattle.placing.specs.declared.Senders.TheVariants.{One, All, Four}

module _ (s : Sheet) (σ : Schedule) (t k : ℕ) (k-in : k < 16) (free : placed σ t ≡ false) (closed : Closed s σ) (single : Single s) where
  abbrev part : ℕ → ℕ → ℕ
  part i l = pick (eqb (source_of s i) t) (counted_by (into_from s σ (target_of s i) k) one_by (known s σ) l) 0

  spread : (b : Bool) (n : ℕ) (f : ℕ → ℕ) → pick b (sum n f) 0 ≡ sum n (λ l. pick b (f l) 0)
  spread true n f = refl
  spread false n f = sym (sum_zeros n (λ l. 0) (λ l h. refl))

  turned : (a b : ℕ) → Dec (a ≡ b) → eqb a b ≡ eqb b a
  turned a b (yes e) = eq-eqb a b e ∙ sym (eq-eqb b a (sym e))
  turned a b (no e) = ne_eqb a b e ∙ sym (ne_eqb b a (λ x. e (sym x)))

  hit : (i l : ℕ) → stands σ (source_of s l) k ≡ true → part i l ≡ pick (follows_by s (target_of s l) t i) 1 0
  unfolding counted_by follows_by
  hit i l e =
      rw (e, stands-placed σ k k-in (source_of s l) e, turned (target_of s l) (target_of s i) (ℕ_discrete (target_of s l) (target_of s i))) (go (eqb (source_of s i) t) (eqb (target_of s i) (target_of s l)))
    where
      go : (a b : Bool) → ◌≡◌ {A = ℕ} (pick a (pick (both (both b true) true) 1 0) 0) (pick (both a b) 1 0)
      go true true = refl
      go true false = refl
      go false b = refl

  miss : (i l : ℕ) → stands σ (source_of s l) k ≡ false → part i l ≡ 0
  unfolding counted_by
  miss i l e = rw e (go (eqb (source_of s i) t) (eqb (target_of s l) (target_of s i)))
    where
      go : (a b : Bool) → ◌≡◌ {A = ℕ} (pick a (pick (both (both b false) (placed σ (source_of s l))) 1 0) 0) 0
      go true true = refl
      go true false = refl
      go false b = refl

  one_of : (u i j : ℕ) → i < link_count s → j < link_count s → follows_by s u t i ≡ true → follows_by s u t j ≡ true → i ≡ j
  unfolding follows_by
  one_of u i j h g p q =
      let a = both-parts (eqb (source_of s i) t) (eqb (target_of s i) u) p in
      let b = both-parts (eqb (source_of s j) t) (eqb (target_of s j) u) q in
      single.once i j h g (eqb-true (source_of s i) t a.0 ∙ sym (eqb-true (source_of s j) t b.0)) (eqb-true (target_of s i) u a.1 ∙ sym (eqb-true (target_of s j) u b.1))

  column : (l : ℕ) → (b : Bool) → stands σ (source_of s l) k ≡ b → sum (link_count s) (λ i. part i l) ≡ pick (both (stands σ (source_of s l) k) (follows s (target_of s l) t)) 1 0
  unfolding follows
  column l true e =
      rw e (sum-cong (link_count s) (λ i. part i l) (λ i. pick (follows_by s (target_of s l) t i) 1 0) (λ i h. hit i l e) ∙ sum-single (link_count s) (follows_by s (target_of s l) t) (one_of (target_of s l)))
  column l false e = rw e (sum_zeros (link_count s) (λ i. part i l) (λ i h. miss i l e))

  -- the links from k to successors of t, link by link
  abbrev followed : ℕ → ℕ
  followed l = pick (both (stands σ (source_of s l) k) (follows s (target_of s l) t)) 1 0

  due-is : sum (link_count s) (due_by s σ t (One k)) ≡ sum (link_count s) followed
  unfolding due_by known_into
  due-is =
      sum-cong (link_count s) (due_by s σ t (One k)) (λ i. sum (link_count s) (λ l. part i l)) (λ i h. spread (eqb (source_of s i) t) (link_count s) (counted_by (into_from s σ (target_of s i) k) one_by (known s σ)))
      ∙ sum-swap (link_count s) (link_count s) (λ i l. part i l)
      ∙ sum-cong (link_count s) (λ l. sum (link_count s) (λ i. part i l)) followed (λ l h. column l (stands σ (source_of s l) k) refl)

  -- a successor of t is not placed
  behind : (l : ℕ) → l < link_count s → placed σ (target_of s l) ≡ true → follows s (target_of s l) t ≡ false
  unfolding follows follows_by
  behind l h e = none_any (link_count s) (follows_by s (target_of s l) t) (λ i g. apart i g (ℕ_discrete (source_of s i) t) (ℕ_discrete (target_of s i) (target_of s l)))
    where
      apart : (i : ℕ) → i < link_count s → Dec (source_of s i ≡ t) → Dec (target_of s i ≡ target_of s l) → both (eqb (source_of s i) t) (eqb (target_of s i) (target_of s l)) ≡ false
      apart i g (no a) b = rw (ne_eqb (source_of s i) t a)
      apart i g (yes a) (no b) = rw (eq-eqb (source_of s i) t a, ne_eqb (target_of s i) (target_of s l) b)
      apart i g (yes a) (yes b) = absurd (true≢false (sym (closed i g (ap (placed σ) b ∙ e)) ∙ ap (placed σ) a ∙ free))

  abbrev waiting : ℕ → ℕ
  waiting = counted_by (waits s σ k) one_by (known s σ)

  less : (l : ℕ) → l < link_count s → followed l ≤ waiting l
  unfolding counted_by
  less l h = go (stands σ (source_of s l) k) (placed σ (target_of s l)) (follows s (target_of s l) t) (placed σ (source_of s l)) (behind l h) (stands-placed σ k k-in (source_of s l))
    where
      go : (a p f d : Bool) → (p ≡ true → f ≡ false) → (a ≡ true → d ≡ true) → pick (both a f) 1 0 ≤ pick (both (both a (not p)) d) 1 0
      go false p f d h g = omega arith
      go true p false d h g = omega arith
      go true false true true h g = omega arith
      go true false true false h g = absurd (true≢false (sym (g refl)))
      go true true true d h g = absurd (true≢false (h refl))

  each : (l : ℕ) → l < link_count s → spent_by s σ t k l ≡ eqb (followed l) (waiting l)
  unfolding spent_by counted_by
  each l h = go (stands σ (source_of s l) k) (placed σ (target_of s l)) (follows s (target_of s l) t) (placed σ (source_of s l)) (behind l h) (stands-placed σ k k-in (source_of s l))
    where
      go : (a p f d : Bool) → (p ≡ true → f ≡ false) → (a ≡ true → d ≡ true) → either (not a) (either p f) ≡ eqb (pick (both a f) 1 0) (pick (both (both a (not p)) d) 1 0)
      go false p f d h g = refl
      go true false true true h g = refl
      go true false false true h g = refl
      go true true false d h g = refl
      go true true true d h g = absurd (true≢false (h refl))
      go true false f false h g = absurd (true≢false (sym (g refl)))

  spent-is : eqb (sum (link_count s) (due_by s σ t (One k))) (sum (link_count s) waiting) ≡ spent s σ t k
  unfolding spent
  spent-is = rw due-is (all-eqb (link_count s) followed waiting (spent_by s σ t k) less each)

-- no processor has more due than all
one-le-all : (s : Sheet) (σ : Schedule) (t k i : ℕ) → due_by s σ t (One k) i ≤ due_by s σ t All i
unfolding due_by known_into counted_by
one-le-all s σ t k i =
    less (eqb (source_of s i) t) (counts-from-le (link_count s) (into s (target_of s i)) (λ l. stands σ (source_of s l) k) (known s σ) one_by)
  where
    less : (b : Bool) {x y : ℕ} → x ≤ y → pick b x 0 ≤ pick b y 0
    less true h = h
    less false h = omega arith

module _ (w own : List ℕ) (t k : ℕ) (c : Choosing w own t) (k-in : k < 16) {p : ℕ} (ep : p ≡ get_or own (waiting_from + k) 0) where
  abbrev s : Sheet
  s = sheet_in w

  abbrev σ : Schedule
  σ = schedule_in w

  waiting-is : p ≡ sum (link_count s) (counted_by (waits s σ k) one_by (known s σ))
  waiting-is = ep ∙ c.kept.caches.counted.pending k k-in

  pub spent-kept : {d : ℕ} → d ≡ sum (link_count s) (due_by s σ t (One k)) → eqb d p ≡ spent s σ t k
  spent-kept q = rw (q, waiting-is) (spent-is s σ t k k-in (ready-free s σ t c.is_ready) c.kept.caches.closed c.kept.single)

  -- more links wait than are due from all processors
  pub spent-more : {d : ℕ} → d ≡ sum (link_count s) (due_by s σ t All) → d < p → false ≡ spent s σ t k
  spent-more {d} q l =
      let e : sum (link_count s) (due_by s σ t (One k)) ≢ p = λ x. absurd (omega (arith, sum_mono (link_count s) (due_by s σ t (One k)) (due_by s σ t All) (λ i h. one-le-all s σ t k i), x)) in
      sym (ne_eqb (sum (link_count s) (due_by s σ t (One k))) p e) ∙ spent-kept refl

-- a link that does not lead from t counts nothing
pub due-else : (s : Sheet) (σ : Schedule) (t : ℕ) (from : Senders) (l : ℕ) → source_of s l ≢ t → due_by s σ t from l ≡ 0
unfolding due_by
due-else s σ t from l n = rw (ne_eqb (source_of s l) t n)

pub due-own : (s : Sheet) (σ : Schedule) (t : ℕ) (from : Senders) (l : ℕ) → source_of s l ≡ t → {v x : ℕ} → v ≡ target_of s l → x ≡ known_into s σ v from → x ≡ due_by s σ t from l
unfolding due_by
due-own s σ t from l e ev ex = rw (eq-eqb (source_of s l) t e) (ex ∙ ap (λ (u : ℕ). known_into s σ u from) ev)

-- a successor of t is not placed either
pub target_free : {w own : List ℕ} {t : ℕ} → Choosing w own t → (l : ℕ) → l < link_count (sheet_in w) → source_of (sheet_in w) l ≡ t → {v : ℕ} → v ≡ target_of (sheet_in w) l → placed (schedule_in w) v ≡ false
target_free {w} {own} {t} c l h from ev = ap (placed (schedule_in w)) ev ∙ go (placed (schedule_in w) (target_of (sheet_in w) l)) refl
  where
    go : (b : Bool) → placed (schedule_in w) (target_of (sheet_in w) l) ≡ b → placed (schedule_in w) (target_of (sheet_in w) l) ≡ false
    go true e = absurd (true≢false (sym (c.kept.caches.closed l h e) ∙ ap (placed (schedule_in w)) from ∙ ready-free (sheet_in w) (schedule_in w) t c.is_ready))
    go false e = e

-- the known links into v stand in its words
module _ {s : Sheet} {σ : Schedule} {w : List ℕ} (ranged : Ranged s) (d : Counted s σ (known s σ) w) (v : ℕ) (h : v < task_count s) where
  pub known-one : Single s → placed σ v ≡ false → {from : Senders} {k x : ℕ} → from ≡ One k → OnBoard from → x ≡ get_or w (packed_from + (4 * v + k / 4)) 0
      → (x / 2 ^ (8 * (k % 4)) % 256 ≡ known_into s σ v from) × (x / 2 ^ (8 * (k % 4)) % 256 < 4294967296)
  unfolding known_into
  known-one single free {from} {k} {x} e on ex =
      let k-in : k < 16 = subst OnBoard e on in
      let counts : ℕ → ℕ = λ i. sum (link_count s) (counted_by (into_from s σ v (4 * (k / 4) + i)) one_by (known s σ)) in
      let q : 4 * (k / 4) + k % 4 ≡ k = omega arith in (
        ap (λ (y : ℕ). y / 2 ^ (8 * (k % 4)) % 256) (ex ∙ d.packed v (k / 4) h (omega arith))
            ∙ four-byte counts (k % 4) (omega arith) (λ i g. few-from s σ ranged single v h free (known s σ) (λ l p. p) (4 * (k / 4) + i))
            ∙ ap (λ (y : ℕ). sum (link_count s) (counted_by (into_from s σ v y) one_by (known s σ))) q ∙ ap (known_into s σ v) (sym e),
        omega arith,
      )

  pub known-all : {from : Senders} {x : ℕ} → from ≡ All → x ≡ get_or w (seen_from + v) 0 → (x ≡ known_into s σ v from) × (x < 4294967296)
  unfolding known_into
  known-all {from} e ex = (ex ∙ d.seen v h ∙ ap (known_into s σ v) (sym e), omega (arith, ex, (few-counted ranged d v 0 h (omega arith)).seen))

  pub known-four : {from : Senders} {j x : ℕ} → from ≡ Four j → OnBoard from → x ≡ get_or w (packed_from + (4 * v + j)) 0 → x < 4294967296 → (x ≡ known_into s σ v from) × (x < 4294967296)
  unfolding known_into
  known-four {from} {j} e on ex few = (ex ∙ d.packed v j h (subst OnBoard e on) ∙ ap (known_into s σ v) (sym e), few)

-- four counts in one number: what is due from each of four processors
module _ (s : Sheet) (σ : Schedule) (t : ℕ) where
  four-due : (j l : ℕ) → due_by s σ t (Four j) l ≡ four_of (λ i. due_by s σ t (One (4 * j + i)) l)
  unfolding due_by known_into
  four-due j l = go (eqb (source_of s l) t) (λ i. sum (link_count s) (counted_by (into_from s σ (target_of s l) (4 * j + i)) one_by (known s σ)))
    where
      go : (b : Bool) (f : ℕ → ℕ) → pick b (four_of f) 0 ≡ four_of (λ i. pick b (f i) 0)
      go true f = refl
      go false f = sym (four-zero (λ i. 0) (λ i h. refl))

  four-sum : (n : ℕ) (f : ℕ → ℕ) (g : ℕ → ℕ → ℕ) → ((l : ℕ) → f l ≡ four_of (λ i. g i l)) → sum n f ≡ four_of (λ i. sum n (g i))
  unfolding sum four_of
  four-sum zero f g e = refl
  four-sum (suc n) f g e = omega (arith, four-sum n f g e, e n)

  pub due-byte : {d : ℕ} {x : Counts} → Dues s σ t d x → d < 256 → (k : ℕ) → k < 16 → {y : ℕ} → y ≡ four_in x (k / 4) → y / 2 ^ (8 * (k % 4)) % 256 ≡ sum (link_count s) (due_by s σ t (One k))
  due-byte {d} {x} h few k k-in {y} e =
      let q : 4 * (k / 4) + k % 4 ≡ k = omega arith in
      let counts : ℕ → ℕ = λ i. sum (link_count s) (due_by s σ t (One (4 * (k / 4) + i))) in
      let packed : y ≡ four_of counts = e ∙ h.four.each (k / 4) (omega arith) ∙ four-sum (link_count s) (due_by s σ t (Four (k / 4))) (λ i. due_by s σ t (One (4 * (k / 4) + i))) (four-due (k / 4)) in
      ap (λ (z : ℕ). z / 2 ^ (8 * (k % 4)) % 256) packed
      ∙ four-byte counts (k % 4) (omega arith) (λ i g. omega (arith, h.all, sum_mono (link_count s) (due_by s σ t (One (4 * (k / 4) + i))) (due_by s σ t All) (λ l p. one-le-all s σ t (4 * (k / 4) + i) l)))
      ∙ ap (λ (z : ℕ). sum (link_count s) (due_by s σ t (One z))) q

pub on-board : {from : Senders} {k : ℕ} → from ≡ One k → OnBoard from → k < 16
on-board e on = subst OnBoard e on

pub on-four : {from : Senders} {j : ℕ} → from ≡ Four j → OnBoard from → j < 4
on-four e on = subst OnBoard e on
