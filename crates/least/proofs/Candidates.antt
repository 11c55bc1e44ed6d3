-- Every arrangement of the tasks is a candidate: each task once, no programme empty, no more programmes than processors.
use Prim.Native.Nat.{ℕ, zero, suc, ◌+◌, ◌≤◌, ◌<◌}
use native.Mathlib.Omega.{arith}
use native.Mathlib.Decide.{dec_lt}
use mathlib.Core.Bool.{Bool, true, false}
use mathlib.Core.Path.{◌≡◌, refl, sym, ap, ◌∙◌, subst}
use mathlib.Core.Logic.{◌⊎◌, inl, inr, ⊎_elim}
use mathlib.Core.List.{List, [], ◌∷◌, ◌++◌, append_assoc, append-nil}
use lib.ListN.{length, length-append}
use lib.Dec.{ltb, eqb}
use borrow.Author.Tests.{lt-ltb, eq-eqb, ne_eqb}
use Rattle.folds.specs.Folds.{pick, bit, either, sum, gather}
use Rattle.folds.proofs.Tests.{below_suc}
use Rattle.folds.proofs.Laws.{sum-add, sum_zeros, sum-only, sum_ones}
use Rattle.bundle.specs.Fits.{Each}
use Rattle.planner.proofs.Schedules.{tally}
use Rattle.least.specs.Written.{among, Busy}
use Rattle.least.specs.Least.{In, opens, joins, among_all, extended, completions}

pub in_left : {A : Type 0} (x : A) (ys zs : List A) → In x ys → In x (ys ++ zs)
in_left x [] zs h = absurd h
in_left x (y ∷ ys) zs h = ⊎_elim (λ e. inl e) (λ i. inr (in_left x ys zs i)) h

pub in_right : {A : Type 0} (x : A) (ys zs : List A) → In x zs → In x (ys ++ zs)
in_right x [] zs h = h
in_right x (y ∷ ys) zs h = inr (in_right x ys zs h)

pub in-gather : {A : Type 0} (x : A) (n : ℕ) (f : ℕ → List A) (t : ℕ) → t < n → In x (f t) → In x (gather n f)
unfolding gather
in-gather x zero f t h i = absurd (omega arith)
in-gather x (suc n) f t h i = ⊎_elim (λ l. in_left x (gather n f) (f n) (in-gather x n f t l i)) (λ q. in_right x (gather n f) (f n) (subst (λ j. In x (f j)) q i)) (below_suc h)

-- how often t stands in an arrangement, and how many tasks it has
abbrev pub tally_all : ℕ → List (List ℕ) → ℕ
tally_all t [] = 0
tally_all t (ts ∷ a) = tally t ts + tally_all t a

abbrev pub length_all : List (List ℕ) → ℕ
length_all [] = 0
length_all (ts ∷ a) = length ts + length_all a

tally-none : (t : ℕ) (ts : List ℕ) → tally t ts ≡ 0 → among t ts ≡ false
unfolding among
tally-none t [] h = refl
tally-none t (u ∷ us) h = go (eqb t u) refl (tally-none t us)
  where
    go : (x : Bool) → eqb t u ≡ x → (tally t us ≡ 0 → among t us ≡ false) → either (eqb t u) (among t us) ≡ false
    go true e r = absurd (omega (arith, ap bit e))
    go false e r = rw e (r (omega arith))

all_none : (t : ℕ) (a : List (List ℕ)) → tally_all t a ≡ 0 → among_all t a ≡ false
unfolding among_all
all_none t [] h = refl
all_none t (ts ∷ a) h = rw (tally-none t ts (omega arith)) (all_none t a (omega arith))

pub tally-append : (t : ℕ) (ts us : List ℕ) → tally t (ts ++ us) ≡ tally t ts + tally t us
tally-append t [] us = omega arith
tally-append t (u ∷ ts) us = omega (arith, tally-append t ts us)

pub tally_all-append : (t : ℕ) (a c : List (List ℕ)) → tally_all t (a ++ c) ≡ tally_all t a + tally_all t c
tally_all-append t [] c = omega arith
tally_all-append t (ts ∷ a) c = omega (arith, tally_all-append t a c)

-- an arrangement with all of us joined to its last programme
abbrev pub joins_all : List (List ℕ) → List ℕ → List (List ℕ)
joins_all a [] = a
joins_all a (u ∷ us) = joins_all (joins a u) us

pub joins-last : (a : List (List ℕ)) (ts : List ℕ) (u : ℕ) → joins (a ++ ts ∷ []) u ≡ a ++ (ts ++ u ∷ []) ∷ []
unfolding joins
joins-last [] ts u = refl
joins-last (us ∷ []) ts u = refl
joins-last (us ∷ vs ∷ a) ts u = ap {B = List (List ℕ)} (λ x. us ∷ x) (joins-last (vs ∷ a) ts u)

joins_all-last : (a : List (List ℕ)) (ts us : List ℕ) → joins_all (a ++ ts ∷ []) us ≡ a ++ (ts ++ us) ∷ []
joins_all-last a ts [] = ap {B = List (List ℕ)} (λ x. a ++ x ∷ []) (sym (append-nil ts))
joins_all-last a ts (u ∷ us) =
    ap (λ x. joins_all x us) (joins-last a ts u) ∙ joins_all-last a (ts ++ u ∷ []) us ∙ ap {B = List (List ℕ)} (λ x. a ++ x ∷ []) (append_assoc ts (u ∷ []) us)

module _ (p n : ℕ) where
  -- a completion, if the last programme is joined by us and then m tasks follow
  join-in : (x : List (List ℕ)) (a : List (List ℕ)) (u m : ℕ) → u < n → among_all u a ≡ false → 0 < length a → In x (completions p n m (joins a u)) → In x (completions p n (suc m) a)
  unfolding completions extended
  join-in x a u m h e l i =
      in-gather x n (extended p n (completions p n m) a) u h
      (rw (e, lt-ltb 0 (length a) l) (in_right x (pick (ltb (length a) p) (completions p n m (opens a u)) []) (completions p n m (joins a u)) i))

  open_in : (x : List (List ℕ)) (a : List (List ℕ)) (u m : ℕ) → u < n → among_all u a ≡ false → length a < p → In x (completions p n m (opens a u)) → In x (completions p n (suc m) a)
  unfolding completions extended
  open_in x a u m h e l i =
      in-gather x n (extended p n (completions p n m) a) u h
      (rw (e, lt-ltb (length a) p l) (in_left x (completions p n m (opens a u)) (pick (ltb 0 (length a)) (completions p n m (joins a u)) []) i))

  joined_in : (x : List (List ℕ)) (a : List (List ℕ)) (ts us : List ℕ) (m : ℕ) → Each (λ u. u < n) us → ((v : ℕ) → tally_all v (a ++ ts ∷ []) + tally v us ≤ 1)
      → In x (completions p n m (a ++ (ts ++ us) ∷ [])) → In x (completions p n (length us + m) (a ++ ts ∷ []))
  joined_in x a ts [] m h c i = let z : 0 + m ≡ m = omega arith in rw z (subst (λ (y : List ℕ). In x (completions p n m (a ++ y ∷ []))) (append-nil ts) i)
  joined_in x a ts (u ∷ us) m h c i =
      let z : suc (length us) + m ≡ suc (length us + m) = omega arith in
      rw z
      (join-in x (a ++ ts ∷ []) u (length us + m) h.0
      (all_none u (a ++ ts ∷ []) (omega (arith, c u, ap bit (eq-eqb u u refl))))
      (omega (arith, length-append a (ts ∷ [])))
      (rw (joins-last a ts u)
      (joined_in x a (ts ++ u ∷ []) us m h.1
      (λ v. omega (arith, c v, tally_all-append v a (ts ∷ []), tally_all-append v a ((ts ++ u ∷ []) ∷ []), tally-append v ts (u ∷ [])))
      (subst (λ (y : List ℕ). In x (completions p n m (a ++ y ∷ []))) (sym (append_assoc ts (u ∷ []) us)) i))))

  -- the programmes that follow
  opened_in : (a c : List (List ℕ)) → Each (Each (λ u. u < n)) c → Each Busy c → length a + length c ≤ p → ((v : ℕ) → tally_all v a + tally_all v c ≤ 1)
      → In (a ++ c) (completions p n (length_all c) a)
  unfolding completions opens
  opened_in a [] h b l o = inl (append-nil a)
  opened_in a ([] ∷ c) h b l o = absurd (omega (arith, b.0))
  opened_in a ((t ∷ ts) ∷ c) h b l o =
      let z : suc (length ts) + length_all c ≡ suc (length ts + length_all c) = omega arith in
      rw z
      (open_in (a ++ (t ∷ ts) ∷ c) a t (length ts + length_all c) h.0.0 (all_none t a (omega (arith, o t, ap bit (eq-eqb t t refl)))) (omega arith)
      (joined_in (a ++ (t ∷ ts) ∷ c) a (t ∷ []) ts (length_all c) h.0.1
      (λ v. omega (arith, o v, tally_all-append v a ((t ∷ []) ∷ [])))
      (subst (λ (y : List (List ℕ)). In y (completions p n (length_all c) (a ++ (t ∷ ts) ∷ []))) (append_assoc a ((t ∷ ts) ∷ []) c)
      (opened_in (a ++ (t ∷ ts) ∷ []) c h.1 b.1 (omega (arith, length-append a ((t ∷ ts) ∷ []))) (λ v. omega (arith, o v, tally_all-append v a ((t ∷ ts) ∷ [])))))))

  -- tasks below n, counted one by one
  count : (ts : List ℕ) → Each (λ u. u < n) ts → length ts ≡ sum n (λ t. tally t ts)
  count [] h = sym (sum_zeros n (λ t. 0) (λ j l. refl))
  count (u ∷ us) h =
      omega (
        arith,
        count us h.1,
        sum-add n (λ t. bit (eqb t u)) (λ t. tally t us),
        sum-only n (λ t. bit (eqb t u)) u h.0 (λ j d. rw (ne_eqb j u d)),
        ap bit (eq-eqb u u refl),
      )

  count_all : (a : List (List ℕ)) → Each (Each (λ u. u < n)) a → length_all a ≡ sum n (λ t. tally_all t a)
  count_all [] h = sym (sum_zeros n (λ t. 0) (λ j l. refl))
  count_all (ts ∷ a) h = omega (arith, count ts h.0, count_all a h.1, sum-add n (λ t. tally t ts) (λ t. tally_all t a))

-- each of n tasks once
pub record Arranged (p n : ℕ) (a : List (List ℕ)) : Type 0 where
  pub below : Each (Each (λ u. u < n)) a
  pub busy : Each Busy a
  pub few : length a ≤ p
  pub once : (t : ℕ) → t < n → tally_all t a ≡ 1

-- a task that is not below n stands nowhere
absent : (n : ℕ) (t : ℕ) (ts : List ℕ) → Each (λ u. u < n) ts → n ≤ t → tally t ts ≡ 0
absent n t [] h l = refl
absent n t (u ∷ us) h l = omega (arith, ap bit (ne_eqb t u (omega (arith, h.0))), absent n t us h.1 l)

absent_all : (n : ℕ) (t : ℕ) (a : List (List ℕ)) → Each (Each (λ u. u < n)) a → n ≤ t → tally_all t a ≡ 0
absent_all n t [] h l = refl
absent_all n t (ts ∷ a) h l = omega (arith, absent n t ts h.0 l, absent_all n t a h.1 l)

pub candidate : (p n : ℕ) (a : List (List ℕ)) → Arranged p n a → In a (completions p n n [])
candidate p n a r =
    subst (λ (m : ℕ). In a (completions p n m [])) (count_all p n a r.below ∙ sum_ones n (λ t. tally_all t a) r.once)
    (opened_in p n [] a r.below r.busy (omega (arith, r.few)) (λ v. at v (dec_lt v n)))
  where
    at : (v : ℕ) → Dec (v < n) → 0 + tally_all v a ≤ 1
    at v (yes l) = omega (arith, r.once v l)
    at v (no l) = omega (arith, absent_all n v a r.below (omega arith))
