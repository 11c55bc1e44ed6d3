-- A sheet of at most six tasks has at most 36 links, since no two join the same pair: what bounds the code's tables and its candidate's bytes.
use Prim.Native.Nat.{ℕ, zero, suc, ◌+◌, ◌*◌, ◌≤◌, ◌<◌}
use native.Mathlib.Omega.{arith}
use mathlib.Core.Bool.{Bool, true, false}
use mathlib.Core.Path.{◌≡◌, refl, sym, ap, ◌∙◌}
use lib.Dec.{eqb}
use borrow.Author.Tests.{eqb-true, eq-eqb, ne_eqb}
use Rattle.folds.specs.Folds.{bit, sum}
use Rattle.folds.proofs.Laws.{sum_zeros, sum-only, sum-le, sum-swap, sum_ones}
use Rattle.sheet.specs.Sheet.{Sheet, task_count, link_count, source_of, target_of}
use Rattle.graph.proofs.Proper.{Proper}

-- of tests of which at most one holds
one_of : (n : ℕ) (p : ℕ → Bool) → ((i j : ℕ) → i < n → j < n → p i ≡ true → p j ≡ true → i ≡ j) → sum n (λ i. bit (p i)) ≤ 1
unfolding sum
one_of zero p h = omega arith
one_of (suc n) p h = go (p n) refl (one_of n p (λ i j k l. h i j (omega arith) (omega arith)))
  where
    go : (x : Bool) → p n ≡ x → sum n (λ i. bit (p i)) ≤ 1 → sum n (λ i. bit (p i)) + bit (p n) ≤ 1
    go false e r = rw e (omega arith)
    go true e r = rw e (omega (arith, sum_zeros n (λ i. bit (p i)) (λ i l. none i l (p i) refl)))
      where
        none : (i : ℕ) → i < n → (x : Bool) → p i ≡ x → bit x ≡ 0
        none i l false q = refl
        none i l true q = absurd (omega (arith, h i n (omega arith) (omega arith) q e))

module _ (s : Sheet) (proper : Proper s) (few : task_count s ≤ 6) where
  abbrev pair : ℕ → ℕ
  pair l = 6 * source_of s l + target_of s l

  pair_one : (l m : ℕ) → l < link_count s → m < link_count s → pair l ≡ pair m → l ≡ m
  pair_one l m h k e =
      let a = proper.form.source l h in
      let b = proper.form.target l h in
      let c = proper.form.source m k in
      let d = proper.form.target m k in
      proper.form.single l m h k (omega arith) (omega arith)

  pub few_links : link_count s ≤ 36
  few_links =
      omega (
        arith,
        sum_ones (link_count s) (λ l. sum 36 (λ p. bit (eqb p (pair l))))
            (λ l h. sum-only 36 (λ p. bit (eqb p (pair l))) (pair l) (omega (arith, proper.form.source l h, proper.form.target l h)) (λ j d. rw (ne_eqb j (pair l) d)) ∙ ap bit (eq-eqb (pair l) (pair l) refl)),
        sum-swap (link_count s) 36 (λ l p. bit (eqb p (pair l))),
        sum-le 36 1 (λ p. sum (link_count s) (λ l. bit (eqb p (pair l))))
            (λ p h. one_of (link_count s) (λ l. eqb p (pair l)) (λ l m i j e f. pair_one l m i j (sym (eqb-true p (pair l) e) ∙ eqb-true p (pair m) f))),
      )
