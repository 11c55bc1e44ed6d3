-- The lowest of those that have the least value is the one that `least` gives.
use Prim.Native.Nat.{ℕ, zero, suc, ◌+◌, ◌-◌, ◌*◌, ◌^◌, ◌≤◌, ◌<◌}
use native.Mathlib.Omega.{arith}
use native.Mathlib.Numerals.{add-one}
use native.Mathlib.Nat.{one-mul}
use mathlib.Core.Path.{◌≡◌, refl, sym, ap, ap₂, subst, ◌∙◌}
use mathlib.Core.Bool.{Bool, true, false}
use mathlib.Core.Option.{Option, none, some}
use lib.Dec.{eqb, ltb}
use lib.Bits.{bit_or, or_shifted_r}
use lib.Count
use borrow.Author.Tests.{eqb-true, eqb-false}
use Rattle.folds.specs.Folds.{pick, either, keep, first, prefer, leading, least}
use Rattle.folds.proofs.Laws.{first_cong, first_found}
use Rattle.placing.specs.Sets.{member, tie_of}
use Rattle.placing.specs.declared.Tied.{Tied}
use Rattle.placing.proofs.Sets.{nobody, member-past, low-member, top-member, lowest-is, lowest-none}

pub record Ties (n : ℕ) (p : ℕ → Bool) (f : ℕ → ℕ) (t : Tied) : Type 0 where
  pub below : t.set < 2 ^ n
  pub same : first n (member t.set) ≡ least n p f
  pub value : (j : ℕ) → least n p f ≡ some j → f j ≡ t.least

-- sets and one number more

first_more : (n s : ℕ) → s < 2 ^ n → first (suc n) (member s) ≡ first n (member s)
unfolding first
first_more n s h = rw (member-past n s n h (omega arith)) (go (first n (member s)))
  where
    go : (o : Option ℕ) → keep o false n ≡ o
    go none = refl
    go (some j) = refl

first_alone : (n : ℕ) → first (suc n) (member (2 ^ n)) ≡ some n
first_alone n =
    let e : 1 * 2 ^ n + 0 ≡ 2 ^ n = omega arith in
    subst (λ (s : ℕ). first (suc n) (member s) ≡ some n) e
    (first_found (suc n) (member (1 * 2 ^ n + 0)) n
    (λ j l. low-member n 1 0 j (power n) l ∙ nobody j)
    (top-member n 1 0 (power n) (omega arith))
    (omega arith))
  where
    power : (n : ℕ) → 0 < 2 ^ n
    power zero = omega arith
    power (suc n) = omega (arith, power n)

first-joined : (n s j : ℕ) → s < 2 ^ n → first n (member s) ≡ some j → first (suc n) (member (bit_or s (2 ^ n))) ≡ some j
unfolding first
first-joined n s j h e =
    let q : bit_or s (2 ^ n) ≡ 1 * 2 ^ n + s = ap (bit_or s) (sym (one-mul (2 ^ n))) ∙ or_shifted_r 1 n s h in
    let f : first n (member (bit_or s (2 ^ n))) ≡ some j =
    ap (λ (x : ℕ). first n (member x)) q ∙ first_cong n (member (1 * 2 ^ n + s)) (member s) (λ i l. low-member n 1 s i h l) ∙ e
    in
    ap (λ (o : Option ℕ). keep o (member (bit_or s (2 ^ n)) n) n) f

power-more : (n : ℕ) → 2 ^ n < 2 ^ suc n
power-more zero = omega arith
power-more (suc n) = omega (arith, power-more n)

-- one processor more

module _ (n : ℕ) (p : ℕ → Bool) (f : ℕ → ℕ) where
  abbrev more : Bool → Option ℕ → Option ℕ
  more b o = pick b (prefer (λ i j. ltb (f i) (f j)) n o) o

  least_more : least (suc n) p f ≡ more (p n) (least n p f)
  unfolding least leading
  least_more = refl

  -- a set as it was
  stays : (t : Tied) → Ties n p f t → more (p n) (least n p f) ≡ least n p f → Ties (suc n) p f t
  stays t g e =
      let q : least (suc n) p f ≡ least n p f = least_more ∙ e in
      record { below = omega (arith, g.below); same = first_more n t.set g.below ∙ g.same ∙ sym q; value = λ j h. g.value j (sym q ∙ h) }

  alone : (t : Tied) → more (p n) (least n p f) ≡ some n → Ties (suc n) p f (record { least = f n; set = 2 ^ n })
  alone t e =
      let q : least (suc n) p f ≡ some n = least_more ∙ e in
      record { below = power-more n; same = first_alone n ∙ sym q; value = λ j h. let z : some n ≡ some j = sym q ∙ h in let y : j ≡ n = cc in ap f y }

  joins : (t : Tied) (j : ℕ) → Ties n p f t → least n p f ≡ some j → more (p n) (least n p f) ≡ some j → Ties (suc n) p f (record { least = t.least; set = bit_or t.set (2 ^ n) })
  joins t j g o e =
      let q : least (suc n) p f ≡ some j = least_more ∙ e in
      record {
        below = subst (λ (x : ℕ). x < 2 ^ suc n) (sym (ap (bit_or t.set) (sym (one-mul (2 ^ n))) ∙ or_shifted_r 1 n t.set g.below)) (omega (arith, g.below));
        same = first-joined n t.set j g.below (g.same ∙ o) ∙ sym q;
        value = λ i h. g.value i (o ∙ sym q ∙ h);
      }

  -- an empty set: none yet
  none_yet : (t : Tied) → Ties n p f t → t.set ≡ 0 → least n p f ≡ none
  none_yet t g e = sym g.same ∙ ap (λ (s : ℕ). first n (member s)) e ∙ lowest-none n

  some-yet : (t : Tied) → Ties n p f t → 0 < t.set → (j : ℕ) × (least n p f ≡ some j)
  some-yet t g h = (trailing t, sym g.same ∙ lowest-is n t.set h g.below)
    where
      trailing : Tied → ℕ
      trailing t = lib.Count.count_trailing_zeros n t.set

  pub ties-more : (t : Tied) → Ties n p f t → Ties (suc n) p f (tie_of t n (p n) (f n))
  ties-more t g = by-p (p n) refl
    where
      filled : (j : ℕ) → least n p f ≡ some j → p n ≡ true → (a b : Bool) → ltb (f n) t.least ≡ a → eqb (f n) t.least ≡ b →
          Ties (suc n) p f (pick a (record { least = f n; set = 2 ^ n }) (pick b (record { least = f n; set = bit_or t.set (2 ^ n) }) t))
      filled j o e true b x y =
          let v : t.least ≡ f j = sym (g.value j o) in
          alone t (rw (e, o, ← v, x))
      filled j o e false true x y =
          let v : t.least ≡ f j = sym (g.value j o) in
          let w : f n ≡ t.least = eqb-true (f n) t.least y in
          subst (λ (m : ℕ). Ties (suc n) p f (record { least = m; set = bit_or t.set (2 ^ n) })) (sym w) (joins t j g o (rw (e, o, ← v, x)))
      filled j o e false false x y =
          let v : t.least ≡ f j = sym (g.value j o) in
          stays t g (rw (e, o, ← v, x))

      by-set : p n ≡ true → (a : Bool) → eqb t.set 0 ≡ a →
          Ties (suc n) p f (pick (either a (ltb (f n) t.least)) (record { least = f n; set = 2 ^ n }) (pick (eqb (f n) t.least) (record { least = f n; set = bit_or t.set (2 ^ n) }) t))
      by-set e true q = alone t (rw (e, none_yet t g (eqb-true t.set 0 q)))
      by-set e false q = let s = some-yet t g (omega (arith, eqb-false t.set 0 q)) in filled s.0 s.1 e (ltb (f n) t.least) (eqb (f n) t.least) refl refl

      by-p : (b : Bool) → p n ≡ b → Ties (suc n) p f (tie_of t n b (f n))
      by-p false e = stays t g (rw e)
      by-p true e = by-set e (eqb t.set 0) refl

pub ties-none : (p : ℕ → Bool) (f : ℕ → ℕ) → Ties 0 p f (record { least = 0; set = 0 })
unfolding first least leading
ties-none p f = record { below = omega arith; same = refl; value = λ j h. cc }

pub ties-next : (k : ℕ) (p : ℕ → Bool) (f : ℕ → ℕ) (t r : Tied) (b : Bool) (v : ℕ) → Ties k p f t → p k ≡ b → f k ≡ v → r ≡ tie_of t k b v → Ties (k + 1) p f r
ties-next k p f t r b v g x y e =
    let q : tie_of t k (p k) (f k) ≡ r = ap₂ (λ (c : Bool) (w : ℕ). tie_of t k c w) x y ∙ sym e in
    rw add-one (subst (Ties (suc k) p f) q (ties-more k p f t g))

-- a set of numbers below n, looked at up to 16
first_past : (n d s : ℕ) → s < 2 ^ n → first (n + d) (member s) ≡ first n (member s)
first_past n zero s h = let e : n + 0 ≡ n = omega arith in ap (λ (m : ℕ). first m (member s)) e
first_past n (suc d) s h =
    let e : n + suc d ≡ suc (n + d) = omega arith in
    ap (λ (m : ℕ). first m (member s)) e ∙ first_more (n + d) s (wide d) ∙ first_past n d s h
  where
    wide : (d : ℕ) → s < 2 ^ (n + d)
    wide zero = let e : n + 0 ≡ n = omega arith in rw e h
    wide (suc d) = let e : n + suc d ≡ suc (n + d) = omega arith in rw e (omega (arith, wide d))

pub ties-end : {k n : ℕ} {p : ℕ → Bool} {f : ℕ → ℕ} {t : Tied} → Ties k p f t → k ≡ n → n ≤ 16 → first 16 (member t.set) ≡ least n p f
ties-end {k} {n} {p} {f} {t} g e h =
    let z : k + (16 - k) ≡ 16 = omega arith in
    ap (λ (m : ℕ). first m (member t.set)) (sym z) ∙ first_past k (16 - k) t.set g.below ∙ g.same ∙ ap (λ (m : ℕ). least m p f) e
