-- The greatest of a block, and of half the table, when one key changes.
use Prim.Native.Nat.{ℕ, zero, suc, ◌+◌, ◌*◌, ◌/◌, ◌%◌, ◌≤◌, ◌<◌, max}
use mathlib.Core.Path.{◌≡◌, refl, ap, ap₂, sym, ◌∙◌, subst}
use mathlib.Core.Logic.{◌≢◌, ⊎_elim}
use mathlib.Core.List.{List}
use native.Mathlib.Omega.{arith}
use lib.ListN.{length, get_or, set, length-set}
use lib.Seq.{get_or-set_same, get_or-set_other, set-get_or}
use Rattle.folds.specs.Folds.{greatest}
use Rattle.folds.proofs.Tests.{equal-or}
use Rattle.folds.proofs.Loops.{greatest-zero}
use Rattle.folds.proofs.Laws.{greatest-cong, greatest-is, greatest-point, greatest-some, greatest-split, term-le-greatest}
use Rattle.readiness.specs.Keys.{key_by, Blocked, Changed}

one_more : (n : ℕ) (f : ℕ → ℕ) → greatest (suc n) f ≡ max (greatest n f) (f n)
unfolding greatest
one_more n f = refl

-- n blocks of sixteen
blocks : (n : ℕ) (f g : ℕ → ℕ) → ((b : ℕ) → b < n → g b ≡ greatest 16 (λ i. f (16 * b + i))) → greatest (16 * n) f ≡ greatest n g
blocks zero f g h = greatest-zero f ∙ sym (greatest-zero g)
blocks (suc n) f g h =
    let e : 16 * suc n ≡ 16 * n + 16 = omega arith in
    ap (λ (k : ℕ). greatest k f) e ∙ greatest-split (16 * n) 16 f ∙ ap₂ max (blocks n f g (λ b l. h b (omega arith))) (sym (h n (omega arith))) ∙ sym (one_more n g)

-- the greatest of 256 keys from 256 a on is that of their sixteen blocks
pub most-of-half : {q : List ℕ} → Blocked q → (a : ℕ) → a < 2 → greatest 256 (key_by q (256 * a)) ≡ greatest 16 (key_by q (512 + 16 * a))
unfolding key_by
most-of-half {q} k a h =
    blocks 16 (λ i. get_or q (256 * a + i) 0) (λ b. get_or q (512 + 16 * a + b) 0)
    (λ b l. ap (λ (x : ℕ). get_or q x 0) (omega arith) ∙ k.most (16 * a + b) (omega arith) ∙ greatest-cong 16 _ _ (λ i m. ap (λ (x : ℕ). get_or q x 0) (omega arith)))

-- keys in two halves, and sixteen in four quarters
two-halves : (q : List ℕ) (n at next : ℕ) → next ≡ at + n → max (greatest n (key_by q at)) (greatest n (key_by q next)) ≡ greatest (n + n) (key_by q at)
unfolding key_by
two-halves q n at next e =
    sym (greatest-split n n (key_by q at) ∙ ap (max (greatest n (key_by q at))) (greatest-cong n (λ i. key_by q at (n + i)) (key_by q next) (λ i h. ap (λ (x : ℕ). get_or q x 0) (omega arith))))

pub four_quarters : (q : List ℕ) (at : ℕ) → max (max (greatest 4 (key_by q at)) (greatest 4 (key_by q (at + 4)))) (max (greatest 4 (key_by q (at + 8))) (greatest 4 (key_by q (at + 12)))) ≡ greatest 16 (key_by q at)
four_quarters q at = ap₂ max (two-halves q 4 at (at + 4) refl) (two-halves q 4 (at + 8) (at + 12) (omega arith)) ∙ two-halves q 8 at (at + 8) refl

-- key i becomes x
module _ {q : List ℕ} (k : Blocked q) (i x : ℕ) (h : i < 512) where
  long : length (set q i x) ≡ 544
  long = length-set q i x ∙ k.long

  here : get_or (set q i x) i 0 ≡ x
  here = get_or-set_same q i x 0 (omega (arith, k.long))

  others : (j : ℕ) → j ≢ i → get_or (set q i x) j 0 ≡ get_or q j 0
  others j n = get_or-set_other q i j x 0 n

  -- the word of its block becomes v
  module _ (v : ℕ) where
    abbrev last : List ℕ
    last = set (set q i x) (512 + i / 16) v

    last-key : (j : ℕ) → j < 512 → get_or last j 0 ≡ get_or (set q i x) j 0
    last-key j l = get_or-set_other (set q i x) (512 + i / 16) j v 0 (λ e. absurd (omega arith))

    last-other : (b : ℕ) → b < 32 → b ≢ i / 16 → get_or last (512 + b) 0 ≡ greatest 16 (key_by last (16 * b))
    unfolding key_by
    last-other b l n =
        get_or-set_other (set q i x) (512 + i / 16) (512 + b) v 0 (λ e. n (omega arith))
        ∙ others (512 + b) (λ e. absurd (omega arith))
        ∙ k.most b l
        ∙ greatest-cong 16 _ _ (λ j m. sym (last-key (16 * b + j) (omega arith) ∙ others (16 * b + j) (λ e. n (omega arith))))

    pub changed-by : v ≡ greatest 16 (key_by (set q i x) (16 * (i / 16))) → Changed q last i x
    unfolding key_by
    changed-by e =
        record {
          blocked =
              record {
                long = length-set (set q i x) (512 + i / 16) v ∙ long;
                most = λ b l. ⊎_elim
                    (λ d. rw d (get_or-set_same (set q i x) (512 + i / 16) v 0 (omega (arith, long)) ∙ e ∙ greatest-cong 16 _ _ (λ j m. sym (last-key (16 * (i / 16) + j) (omega arith)))))
                    (λ d. last-other b l d)
                    (equal-or b (i / 16));
              };
          here = last-key i h ∙ here;
          others = λ j l n. last-key j l ∙ others j n;
        }

  -- its block's greatest rises with it
  pub raised : get_or q i 0 ≤ x → max (get_or q (512 + i / 16) 0) x ≡ greatest 16 (key_by (set q i x) (16 * (i / 16)))
  unfolding key_by
  raised le =
      let e : 16 * (i / 16) + i % 16 ≡ i = omega arith in
      ap (λ (m : ℕ). max m x) (k.most (i / 16) (omega arith))
      ∙ sym
      (greatest-point 16 (λ j. get_or q (16 * (i / 16) + j) 0) (λ j. get_or (set q i x) (16 * (i / 16) + j) 0) (i % 16) x (omega arith)
      (omega (arith, ap (λ (n : ℕ). get_or (set q i x) n 0) e, ap (λ (n : ℕ). get_or q n 0) e, here))
      (λ j l n. others (16 * (i / 16) + j) (λ d. n (omega arith))))

  -- it is x, if none was more
  pub risen : get_or q (512 + i / 16) 0 ≤ x → x ≡ greatest 16 (key_by (set q i x) (16 * (i / 16)))
  unfolding key_by
  risen le =
      let e : 16 * (i / 16) + i % 16 ≡ i = omega arith in
      let m = term-le-greatest 16 (λ j. get_or q (16 * (i / 16) + j) 0) (i % 16) (omega arith) in
      omega (arith, raised (omega (arith, m, k.most (i / 16) (omega arith), ap (λ (n : ℕ). get_or q n 0) e)))

  -- it stays, if it was not that key and is more than x
  pub stays : x < get_or q (512 + i / 16) 0 → get_or q i 0 ≢ get_or q (512 + i / 16) 0 → get_or q (512 + i / 16) 0 ≡ greatest 16 (key_by (set q i x) (16 * (i / 16)))
  unfolding key_by
  stays lt not-it =
      let f : ℕ → ℕ = λ j. get_or q (16 * (i / 16) + j) 0 in
      let top : get_or q (512 + i / 16) 0 ≡ greatest 16 f = k.most (i / 16) (omega arith) in
      let at = greatest-some 16 f (omega arith) in
      let away : 16 * (i / 16) + at.0 ≢ i = λ e. not-it (ap (λ (n : ℕ). get_or q n 0) (sym e) ∙ at.2 ∙ sym top) in
      sym
      (greatest-is 16 (λ j. get_or (set q i x) (16 * (i / 16) + j) 0) at.0 (get_or q (512 + i / 16) 0) at.1 (others _ away ∙ at.2 ∙ sym top)
      (λ j l. ⊎_elim
      (λ d. omega (arith, ap (λ (n : ℕ). get_or (set q i x) n 0) d, here, lt))
      (λ d. omega (arith, others (16 * (i / 16) + j) d, top, term-le-greatest 16 f j l))
      (equal-or (16 * (i / 16) + j) i)))

  -- where no word of a block changes
  pub unchanged : x < get_or q (512 + i / 16) 0 → get_or q i 0 ≢ get_or q (512 + i / 16) 0 → Changed q (set q i x) i x
  unchanged lt not-it =
      let v = get_or q (512 + i / 16) 0 in
      subst (λ (p : List ℕ). Changed q p i x) (ap (set (set q i x) (512 + i / 16)) (sym (others (512 + i / 16) (λ e. absurd (omega arith)))) ∙ set-get_or (set q i x) (512 + i / 16) 0) (changed-by v (stays lt not-it))
