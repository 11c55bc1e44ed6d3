-- One more link out of t is counted.
use Prim.Native.Nat.{ℕ, ◌+◌, ◌*◌, ◌/◌, ◌%◌, ◌^◌, ◌≤◌, ◌<◌, max}
use mathlib.Core.Bool.{Bool, true, false, not}
use mathlib.Core.Path.{◌≡◌, ap, sym, ◌∙◌, subst}
use mathlib.Core.Logic.{◌≢◌}
use mathlib.Core.List.{List}
use native.Mathlib.Omega.{arith}
use native.Mathlib.Decide.{dec_lt, ℕ_discrete}
use borrow.Author.Tests.{eq-eqb, ne_eqb, lt-ltb, le-ltb}
use lib.ListN.{length, get_or}
use lib.Dec.{eqb, ltb}
use Rattle.folds.specs.Folds.{pick, both, either, sum, greatest}
use Rattle.folds.proofs.Tests.{both-parts}
use Rattle.sheet.specs.Sheet.{Sheet, task_count, link_count, source_of, target_of, cost_of}
use Rattle.sheet.specs.Tables.{Ranged}
use Rattle.planner.specs.Schedule.{Schedule, placed, stands, place_of, finish_of}
use Rattle.planner.specs.Placing.{reach_by}
use Rattle.arrivals.specs.Layout.{seen_from, arrivals_from, senders_from, waiting_from, packed_from, kept_length}
use Rattle.arrivals.specs.Kept.{counted_by, into, into_from, waits, one_by, four_of, Single, Counted}
use Rattle.arrivals.specs.Reach.{further}
use Rattle.arrivals.specs.Steps.{count_words, up_to, Beside, Landed}
use Rattle.arrivals.specs.declared.Reach.{Reach}
use Rattle.arrivals.proofs.Counts.{sum-count, greatest-count}
use Rattle.arrivals.proofs.Fours.{four-cong, four-more, four-small}
use Rattle.arrivals.proofs.Few.{counts-few, few-from}
use Rattle.arrivals.proofs.Reaches.{Reaches, reaches_more}
use Rattle.arrivals.proofs.Words.{Wrote, count-wrote}

module _ (s : Sheet) (σ : Schedule) (t i : ℕ) (own : source_of s i ≡ t) (on : placed σ t ≡ true) where
  here : placed σ (source_of s i) ≡ true
  here = ap (placed σ) own ∙ on

  up-was : up_to s σ t i i ≡ false
  unfolding up_to
  up-was = rw (here, eq-eqb (source_of s i) t own, le-ltb i i (omega arith))

  up-now : up_to s σ t (i + 1) i ≡ true
  unfolding up_to
  up-now = rw (here, eq-eqb (source_of s i) t own, lt-ltb i (i + 1) (omega arith))

up_same : (s : Sheet) (σ : Schedule) (t i j : ℕ) → j ≢ i → up_to s σ t (i + 1) j ≡ up_to s σ t i j
unfolding up_to
up_same s σ t i j d = go (dec_lt j i)
  where
    go : Dec (j < i) → both (placed σ (source_of s j)) (either (not (eqb (source_of s j) t)) (ltb j (i + 1))) ≡ both (placed σ (source_of s j)) (either (not (eqb (source_of s j) t)) (ltb j i))
    go (yes h) = rw (lt-ltb j i h, lt-ltb j (i + 1) (omega arith))
    go (no h) = rw (le-ltb j i (omega arith), le-ltb j (i + 1) (omega arith))

module _ (s : Sheet) (σ : Schedule) (w : List ℕ) (t i k f : ℕ) (k-in : k < 16) (i-in : i < link_count s) (to : target_of s i < task_count s)
    (own : source_of s i ≡ t) (landed : Landed s σ t k f) (counted : Counted s σ (up_to s σ t i) w) (v : ℕ) (ev : v ≡ target_of s i) where
  abbrev c : ℕ → Bool
  c = up_to s σ t i

  abbrev c' : ℕ → Bool
  c' = up_to s σ t (i + 1)

  v-in : v < task_count s
  v-in = rw ev to

  place : place_of σ (source_of s i) ≡ k
  place = ap (place_of σ) own ∙ landed.place

  summed : (q : ℕ → Bool) (x : ℕ → ℕ) → sum (link_count s) (counted_by q x c') ≡ sum (link_count s) (counted_by q x c) + pick (q i) (x i) 0
  summed q x = sum-count q x c c' i (up-was s σ t i own landed.on) (up-now s σ t i own landed.on) (link_count s) i-in (λ j h d. up_same s σ t i j d)

  reached : (q : ℕ → Bool) (x : ℕ → ℕ) → greatest (link_count s) (counted_by q x c') ≡ max (greatest (link_count s) (counted_by q x c)) (pick (q i) (x i) 0)
  reached q x = greatest-count q x c c' i (up-was s σ t i own landed.on) (up-now s σ t i own landed.on) (link_count s) i-in (λ j h d. up_same s σ t i j d)

  this-task : eqb (target_of s i) v ≡ true
  this-task = eq-eqb (target_of s i) v (sym ev)

  other-task : (u : ℕ) → u ≢ v → eqb (target_of s i) u ≡ false
  other-task u d = ne_eqb (target_of s i) u (λ z. d (sym z ∙ sym ev))

  -- the word of k's count
  abbrev counts : ℕ → ℕ → (ℕ → Bool) → ℕ → ℕ
  counts u j d n = sum (link_count s) (counted_by (into_from s σ u (4 * j + n)) one_by d)

  which : (n : ℕ) → n < 4 → Dec (k % 4 ≡ n) → into_from s σ v (4 * (k / 4) + n) i ≡ eqb (k % 4) n
  unfolding stands
  which n h (yes e) = rw (this-task, eq-eqb (k % 4) n e, eq-eqb (place_of σ (source_of s i)) (4 * (k / 4) + n) (place ∙ omega arith))
  which n h (no e) = rw (this-task, ne_eqb (k % 4) n e, ne_eqb (place_of σ (source_of s i)) (4 * (k / 4) + n) (λ z. e (omega (arith, place))))

  number-now : {number : ℕ} → number ≡ get_or w (packed_from + (4 * v + k / 4)) 0 + 2 ^ (8 * (k % 4)) → number ≡ four_of (counts v (k / 4) c')
  number-now e =
      e ∙ ap (λ (x : ℕ). x + 2 ^ (8 * (k % 4))) (counted.packed v (k / 4) v-in (omega arith))
      ∙ sym (four-more (counts v (k / 4) c) (counts v (k / 4) c') (k % 4) (omega arith) (λ n h. summed (into_from s σ v (4 * (k / 4) + n)) one_by ∙ rw (which n h (ℕ_discrete (k % 4) n))))

  counted-placed : (l : ℕ) → c' l ≡ true → placed σ (source_of s l) ≡ true
  unfolding up_to
  counted-placed l e = (both-parts (placed σ (source_of s l)) (either (not (eqb (source_of s l) t)) (ltb l (i + 1))) e).0

  -- no count leaves its byte
  pub number_small : {number : ℕ} → Ranged s → Single s → number ≡ get_or w (packed_from + (4 * v + k / 4)) 0 + 2 ^ (8 * (k % 4)) → number < 4294967296
  number_small ranged single e =
      omega (
        arith,
        number-now e,
        four-small (counts v (k / 4) c') (λ n h. few-from s σ ranged single v v-in (ap (placed σ) ev ∙ landed.before i i-in own) c' counted-placed (4 * (k / 4) + n)),
      )

  module _ (few : task_count s ≤ 256) (w' : List ℕ) (seen y pending number : ℕ) (reach : Reach)
      (ey : y ≡ f + cost_of s i) (es : seen ≡ get_or w (seen_from + v) 0 + 1)
      (er : reach ≡ record { at = get_or w (senders_from + v) 0; most = get_or w (arrivals_from + v) 0 })
      (ep : pending ≡ get_or w (waiting_from + k) 0 + 1) (en : number ≡ get_or w (packed_from + (4 * v + k / 4)) 0 + 2 ^ (8 * (k % 4)))
      (wrote : Wrote w v k seen (further reach k y) pending number w') where
    y_is : reach_by s σ i ≡ y
    y_is = sym (ey ∙ ap (λ (x : ℕ). x + cost_of s i) (landed.finish ∙ ap (finish_of σ) (sym own)))

    reaches : Reaches (link_count s) (into s v) (reach_by s σ) (λ l. place_of σ (source_of s l)) c' (further reach k y)
    unfolding stands
    reaches =
        reaches_more (link_count s) (into s v) (reach_by s σ) (λ l. place_of σ (source_of s l)) c c' i k y i-in (up-was s σ t i own landed.on) (up-now s σ t i own landed.on) (λ j h d. up_same s σ t i j d)
        this-task y_is place reach
        (rw er record { whole = counted.arrived v v-in; main = counted.main v v-in })

    seen' : (u : ℕ) → u < task_count s → Dec (u ≡ v) → get_or w' (seen_from + u) 0 ≡ sum (link_count s) (counted_by (into s u) one_by c')
    seen' u h (yes e) = rw e (wrote.seen_is ∙ es ∙ ap (λ (x : ℕ). x + 1) (counted.seen v v-in) ∙ sym (summed (into s v) one_by ∙ rw this-task))
    seen' u h (no e) = wrote.seen_else u (omega arith) e ∙ counted.seen u h ∙ sym (summed (into s u) one_by ∙ rw (other-task u e) (omega arith))

    arrived' : (u : ℕ) → u < task_count s → Dec (u ≡ v) → get_or w' (arrivals_from + u) 0 ≡ greatest (link_count s) (counted_by (into s u) (reach_by s σ) c')
    arrived' u h (yes e) = rw e (wrote.most_is ∙ reaches.whole)
    arrived' u h (no e) = wrote.most_else u (omega arith) e ∙ counted.arrived u h ∙ sym (reached (into s u) (reach_by s σ) ∙ rw (other-task u e) (omega arith))

    main' : (u : ℕ) → u < task_count s → Dec (u ≡ v) → get_or w' (arrivals_from + u) 0 ≡ greatest (link_count s) (counted_by (into_from s σ u (get_or w' (senders_from + u) 0)) (reach_by s σ) c')
    unfolding stands
    main' u h (yes e) = rw (e, wrote.at_is) (wrote.most_is ∙ reaches.main)
    main' u h (no e) =
        rw (wrote.at_else u (omega arith) e)
        (wrote.most_else u (omega arith) e ∙ counted.main u h ∙ sym (reached (into_from s σ u (get_or w (senders_from + u) 0)) (reach_by s σ) ∙ rw (other-task u e) (omega arith)))

    -- t's successor v is not placed, so that the link waits on k
    pending' : (j : ℕ) → j < 16 → Dec (j ≡ k) → get_or w' (waiting_from + j) 0 ≡ sum (link_count s) (counted_by (waits s σ j) one_by c')
    unfolding stands
    pending' j h (yes e) =
        rw e (wrote.pending_is ∙ ep ∙ ap (λ (x : ℕ). x + 1) (counted.pending k k-in)
        ∙ sym (summed (waits s σ k) one_by ∙ rw (eq-eqb (place_of σ (source_of s i)) k place, landed.before i i-in own)))
    pending' j h (no e) =
        wrote.pending_else j h e ∙ counted.pending j h
        ∙ sym (summed (waits s σ j) one_by ∙ rw (ne_eqb (place_of σ (source_of s i)) j (λ z. e (sym z ∙ place))) (omega arith))

    other_place : (u j : ℕ) → (u ≡ v → j ≢ k) → Dec (u ≡ v) → into_from s σ u j i ≡ false
    unfolding stands
    other_place u j d (yes e) = rw (e, this-task, ne_eqb (place_of σ (source_of s i)) j (λ z. d e (sym z ∙ place)))
    other_place u j d (no e) = rw (other-task u e)

    packed-else : (u j : ℕ) → u < task_count s → j < 4 → 4 * u + j ≢ 4 * v + k / 4 → (u ≡ v → j ≢ k / 4) → get_or w' (packed_from + (4 * u + j)) 0 ≡ four_of (counts u j c')
    packed-else u j h g d e =
        wrote.number_else u j g d ∙ counted.packed u j h g
        ∙ four-cong (counts u j c) (counts u j c') (λ n p. sym (summed (into_from s σ u (4 * j + n)) one_by ∙ rw (other_place u (4 * j + n) (λ a b. e a (omega arith)) (ℕ_discrete u v)) (omega arith)))

    packed' : (u j : ℕ) → u < task_count s → j < 4 → Dec (u ≡ v) → Dec (j ≡ k / 4) → get_or w' (packed_from + (4 * u + j)) 0 ≡ four_of (counts u j c')
    packed' u j h g (yes e) (yes q) = rw (e, q) (wrote.number_is ∙ number-now en)
    packed' u j h g (yes e) (no q) = packed-else u j h g (λ x. q (omega arith)) (λ a b. q b)
    packed' u j h g (no e) q = packed-else u j h g (λ x. e (omega arith)) (λ a b. e a)

    count-more : Counted s σ c' w'
    count-more =
        record {
          seen = λ u h. seen' u h (ℕ_discrete u v);
          arrived = λ u h. arrived' u h (ℕ_discrete u v);
          main = λ u h. main' u h (ℕ_discrete u v);
          pending = λ j h. pending' j h (ℕ_discrete j k);
          packed = λ u j h g. packed' u j h g (ℕ_discrete u v) (ℕ_discrete j (k / 4));
        }

-- as the code writes it
pub counted-by : (s : Sheet) (σ : Schedule) (w w' : List ℕ) (t i k f : ℕ) → kept_length ≤ length w → Ranged s → k < 16 → i < link_count s → source_of s i ≡ t → Landed s σ t k f → Counted s σ (up_to s σ t i) w
    → {v seen y pending number : ℕ} {reach r : Reach} → v ≡ target_of s i → y ≡ f + cost_of s i → seen ≡ get_or w (seen_from + v) 0 + 1
    → reach ≡ record { at = get_or w (senders_from + v) 0; most = get_or w (arrivals_from + v) 0 }
    → pending ≡ get_or w (waiting_from + k) 0 + 1 → number ≡ get_or w (packed_from + (4 * v + k / 4)) 0 + 2 ^ (8 * (k % 4))
    → r ≡ further reach k y → w' ≡ count_words w v k seen r pending number → Beside w w' × Counted s σ (up_to s σ t (i + 1)) w'
counted-by s σ w w' t i k f long ranged k-in i-in own landed counted {v} {seen} {y} {pending} {number} {reach} {r} ev ey es er ep en ef e =
    let to = ranged.target i i-in in
    let few = ranged.few_tasks in
    let q : w' ≡ count_words w v k seen (further reach k y) pending number = e ∙ ap (λ (x : Reach). count_words w v k seen x pending number) ef in
    let wrote : Wrote w v k seen (further reach k y) pending number w' =
    subst (Wrote w v k seen (further reach k y) pending number) (sym q) (count-wrote w v k seen (further reach k y) pending number long (rw ev (omega arith)) k-in) in
    (wrote.beside, count-more s σ w t i k f k-in i-in to own landed counted v ev few w' seen y pending number reach ey es er ep en wrote)

-- what counting a link adds to
pub record Few (t k : ℕ) (w : List ℕ) : Type 0 where
  pub seen : get_or w (seen_from + t) 0 ≤ 1024
  pub pending : get_or w (waiting_from + k) 0 ≤ 1024

pub few-counted : {s : Sheet} {σ : Schedule} {c : ℕ → Bool} {w : List ℕ} → Ranged s → Counted s σ c w → (t k : ℕ) → t < task_count s → k < 16 → Few t k w
few-counted {s} {σ} {c} {w} ranged d t k h g =
    let m = ranged.few_links in
    record { seen = omega (arith, d.seen t h, counts-few s (into s t) c); pending = omega (arith, d.pending k g, counts-few s (waits s σ k) c) }
