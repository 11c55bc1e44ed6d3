-- Where a command stands that stands once, and which of two stands before the other.
use Prim.Native.Nat.{ℕ, zero, suc, ◌+◌, ◌*◌, ◌/◌, ◌<◌, ◌≤◌}
use mathlib.Core.Path.{◌≡◌, refl, sym, ap, ◌∙◌, subst}
use mathlib.Core.Bool.{Bool, true, false}
use mathlib.Core.Option.{some, none-ne-some, some-injective}
use mathlib.Core.Logic.{◌≢◌, ⊎_elim}
use mathlib.Core.List.{List, [], ◌∷◌}
use native.Mathlib.Omega.{arith}
use native.Mathlib.Decide.{ℕ_discrete, dec_lt}
use borrow.Author.Tests.{eq-eqb, ne_eqb, lt-ltb, le-ltb}
use lib.ListN.{get_elem?}
use lib.Dec.{eqb, ltb}
use Rattle.folds.specs.Folds.{pick}
use Rattle.folds.proofs.Tests.{ltb-same}
use Rattle.folds.proofs.Laws.{term-le-sum, two-terms-le-sum}
use Rattle.sheet.specs.Sheet.{Sheet, task_count, link_count}
use Rattle.bundle.specs.Bundle.{Command, Bundle, programme_count, programme_of}
use Rattle.admission.specs.Counting.{weigh, whole_of, whole, same, is}
use Rattle.admission.specs.Messages.{home, before}
use Rattle.admission.specs.Notes.{Notable, rank, ahead}
use Rattle.admission.proofs.Weights.{programme-or, command-below, same_refl, not_same, standing}
use Rattle.admission.proofs.Messages.{home-is}
use Rattle.admission.proofs.Ranks.{rank-small, rank-order}

before-absent : (c d : Command) (p : List Command) → weigh (is d) p ≡ 0 → before c d p ≡ false
unfolding before weigh
before-absent c d [] e = refl
before-absent c d (x ∷ p) e = rw (not_same d x (omega arith)) (by (same c x) (omega arith) (before-absent c d p (omega arith)))
  where
    by : (y : Bool) → weigh (is d) p ≡ 0 → before c d p ≡ false → pick y (ltb 0 (weigh (is d) p)) (before c d p) ≡ false
    by true r a = rw r
    by false r a = a

before-without : (c d : Command) (p : List Command) → weigh (is c) p ≡ 0 → before c d p ≡ false
unfolding before weigh
before-without c d [] e = refl
before-without c d (x ∷ p) e = rw (not_same c x (omega arith)) (by (same d x) (before-without c d p (omega arith)))
  where
    by : (y : Bool) → before c d p ≡ false → pick y false (before c d p) ≡ false
    by true r = refl
    by false r = r

before-index : (c d : Command) (p : List Command) (i m : ℕ) → weigh (is c) p ≤ 1 → weigh (is d) p ≤ 1 → get_elem? p i ≡ some c → get_elem? p m ≡ some d → before c d p ≡ ltb i m
unfolding before weigh
before-index c d [] i m a b e f = absurd (none-ne-some c e)
before-index c d (x ∷ p) zero zero a b e f = let q : x ≡ d = some-injective x d f in rw (ap (same d) q ∙ same_refl d)
before-index c d (x ∷ p) zero (suc m) a b e f =
    let q : x ≡ c = some-injective x c e in
    let g : 0 < weigh (is d) p = standing d p m f in
    rw (not_same d x (omega arith), ap (same c) q ∙ same_refl c) (lt-ltb 0 (weigh (is d) p) g ∙ sym (lt-ltb 0 (suc m) (omega arith)))
before-index c d (x ∷ p) (suc i) zero a b e f =
    let q : x ≡ d = some-injective x d f in
    rw (ap (same d) q ∙ same_refl d) (sym (le-ltb (suc i) 0 (omega arith)))
before-index c d (x ∷ p) (suc i) (suc m) a b e f =
    rw (not_same d x (omega (arith, standing d p m f)), not_same c x (omega (arith, standing c p i e)))
    (before-index c d p i m (omega arith) (omega arith) e f ∙ ltb-same i m (suc i) (suc m) (λ h. omega arith) (λ h. omega arith))

-- c stands once, at place i of programme k, and x is its note
pub record Placed (b : Bundle) (c : Command) (k i x : ℕ) : Type 0 where
  pub one : whole b (is c) ≡ 1
  pub here : get_elem? (programme_of b k) i ≡ some c
  pub note : x ≡ 4096 * suc k + rank b k i

module _ {b : Bundle} {c : Command} {k i x : ℕ} (h : Placed b c k i x) where
  pub below : k < programme_count b
  below = command-below b k i c h.here

  mine : 0 < whole_of b (is c) k
  unfolding whole_of
  mine = standing c (programme_of b k) i h.here

  pub placed-home : home b c ≡ k
  placed-home = home-is b c k below (omega (arith, h.one)) mine

  pub placed-programme : x / 4096 ≡ suc k
  placed-programme = omega (arith, h.note, rank-small b k i)

  pub only : (j : ℕ) → weigh (is c) (programme_of b j) ≤ 1
  unfolding whole whole_of weigh
  only j =
      ⊎_elim (λ (l : j < programme_count b). omega (arith, term-le-sum (programme_count b) (whole_of b (is c)) j l, h.one)) (λ e. rw e (omega arith)) (programme-or b j)

  pub elsewhere : (j : ℕ) → j ≢ k → weigh (is c) (programme_of b j) ≡ 0
  unfolding whole whole_of weigh
  elsewhere j d =
      ⊎_elim (λ (l : j < programme_count b). omega (arith, two-terms-le-sum (programme_count b) (whole_of b (is c)) j k d l below, h.one, mine)) (λ e. rw e) (programme-or b j)

-- a command that stands somewhere counts in the whole
pub whole-stands : (b : Bundle) (c : Command) (k i : ℕ) → get_elem? (programme_of b k) i ≡ some c → 0 < whole b (is c)
unfolding whole whole_of
whole-stands b c k i e = omega (arith, standing c (programme_of b k) i e, term-le-sum (programme_count b) (whole_of b (is c)) k (command-below b k i c e))

-- notes keep the order
module _ (s : Sheet) (few : task_count s ≤ 256) (less : link_count s ≤ 1024) {b : Bundle} {c d : Command} {j i x k m y : ℕ} (known : Notable s c) (g : Placed b c j i x) (h : Placed b d k m y) where
  -- in one programme
  pub ahead-order : j ≡ k → ltb i m ≡ ltb x y
  ahead-order e =
      rank-order s few less b j i m c known g.one g.here ∙
      elim (dec_lt (rank b j i) (rank b j m)) [
        | yes l ↦ lt-ltb (rank b j i) (rank b j m) l ∙ sym (lt-ltb x y (omega (arith, g.note, h.note, ap (λ (n : ℕ). rank b n m) e)))
        | no l ↦ le-ltb (rank b j i) (rank b j m) (omega arith) ∙ sym (le-ltb x y (omega (arith, g.note, h.note, ap (λ (n : ℕ). rank b n m) e)))
      ]

  pub same-programme : eqb (x / 4096) (y / 4096) ≡ eqb j k
  same-programme =
      elim (ℕ_discrete j k) [
        | yes e ↦ eq-eqb (x / 4096) (y / 4096) (omega (arith, placed-programme g, placed-programme h)) ∙ sym (eq-eqb j k e)
        | no e ↦ ne_eqb (x / 4096) (y / 4096) (λ q. e (omega (arith, placed-programme g, placed-programme h))) ∙ sym (ne_eqb j k e)
      ]

  inside_one : j ≡ k → before c d (programme_of b j) ≡ ltb i m
  inside_one e =
      before-index c d (programme_of b j) i m (only g j) (only h j) g.here (subst (λ (n : ℕ). get_elem? (programme_of b n) m ≡ some d) (sym e) h.here)

  -- in the programme of the first, and in that of the second
  pub before-first : before c d (programme_of b j) ≡ ahead x y
  unfolding ahead
  before-first =
      rw same-programme
      (elim (ℕ_discrete j k) [
        | yes e ↦ rw (eq-eqb j k e) (inside_one e ∙ ahead-order e)
        | no n ↦ rw (ne_eqb j k n) (before-absent c d (programme_of b j) (elsewhere h j n))
      ])

  pub before-second : before c d (programme_of b k) ≡ ahead x y
  unfolding ahead
  before-second =
      rw same-programme
      (elim (ℕ_discrete j k) [
        | yes e ↦ rw (eq-eqb j k e) (subst (λ (n : ℕ). before c d (programme_of b n) ≡ ltb i m) e (inside_one e) ∙ ahead-order e)
        | no n ↦ rw (ne_eqb j k n) (before-without c d (programme_of b k) (elsewhere g k (λ q. n (sym q))))
      ])
