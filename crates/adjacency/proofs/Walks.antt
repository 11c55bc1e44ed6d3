-- A walk along a chain passes over links that give nothing.
use Prim.Native.Nat.{ℕ, ◌+◌, ◌-◌, ◌≤◌, ◌<◌, max}
use mathlib.Core.Path.{◌≡◌, ap, ◌∙◌}
use mathlib.Core.Logic.{◌≢◌}
use mathlib.Core.List.{List}
use native.Mathlib.Omega.{arith}
use lib.ListN.{get_or}
use Rattle.workspace.specs.Area.{heads_at, marks_at, nexts_at}
use Rattle.folds.specs.Folds.{sum, greatest}
use Rattle.folds.proofs.Loops.{sum_more, greatest-zero, greatest-one}
use Rattle.folds.proofs.Laws.{sum-skip, greatest-skip}
use Rattle.sheet.specs.Sheet.{Sheet, task_count, link_count}
use Rattle.adjacency.specs.Chains.{end_by, half, head_of, next_of, Rechained, Chained}
use Rattle.adjacency.specs.declared.End.{End}
use Rattle.adjacency.specs.declared.End.TheVariants.{Source, Target}

-- the chains of e, where their halves of the words are as they were
module _ {e : End} {s : Sheet} {w w' : List ℕ} where
  chained_same : ((t : ℕ) → t < task_count s → head_of e w' t ≡ head_of e w t) → ((l : ℕ) → l < link_count s → next_of e w' l ≡ next_of e w l) → Chained e s w → Chained e s w'
  chained_same f g d =
      record {
        head_few = λ t h. rw (f t h) (d.head_few t h);
        head_own = λ t h. rw (f t h) (d.head_own t h);
        head_none = λ t h. rw (f t h) (d.head_none t h);
        next_few = λ l h. rw (g l h) (d.next_few l h);
        next_more = λ l h. rw (g l h) (d.next_more l h);
        next_own = λ l h. rw (g l h) (d.next_own l h);
        next_none = λ l h. rw (g l h) (d.next_none l h);
      }

  pub chained-frame : task_count s ≤ 256 → link_count s ≤ 1024 → ((i : ℕ) → heads_at ≤ i → i < marks_at → get_or w' i 0 ≡ get_or w i 0) → Chained e s w → Chained e s w'
  unfolding head_of next_of
  chained-frame n m f = chained_same (λ t h. ap (half e) (f (heads_at + t) (omega arith) (omega arith))) (λ l h. ap (half e) (f (nexts_at + l) (omega arith) (omega arith)))

-- the links into tasks stay chained while those out of tasks are
pub chained-under : {s : Sheet} {w w' : List ℕ} → Rechained Source w w' → Chained Target s w → Chained Target s w'
unfolding head_of next_of
chained-under r = chained_same (λ t h. r.under (heads_at + t)) (λ l h. r.under (nexts_at + l))

-- a sum, or the greatest, of terms of which only those of the links of t are not 0
module _ {e : End} {s : Sheet} {w : List ℕ} (d : Chained e s w) (t : ℕ) (t-in : t < task_count s) (f : ℕ → ℕ) (else : (l : ℕ) → l < link_count s → end_by e s l ≢ t → f l ≡ 0) where
  pub own_first : {l : ℕ} → l ≡ head_of e w t → l < link_count s → end_by e s l ≡ t
  own_first q h = rw q (d.head_own t t-in (rw q at h))

  pub sum_first : {l : ℕ} → l ≡ head_of e w t → l ≤ link_count s → 0 ≡ sum l f
  unfolding sum
  sum_first {l} q h = let z : l ≡ 0 + l = omega arith in ap (λ (k : ℕ). 0) z ∙ rest z
    where
      rest : l ≡ 0 + l → 0 ≡ sum l f
      rest z = omega (arith, sum-skip f 0 l (λ i p k. else i (omega arith) (d.head_none t t-in i (omega arith))), ap (λ (k : ℕ). sum k f) z)

  pub greatest-first : {l : ℕ} → l ≡ head_of e w t → l ≤ link_count s → greatest l f ≡ 0
  greatest-first {l} q h =
      let z : 0 + l ≡ l = omega arith in
      omega (arith, greatest-zero f, greatest-skip f 0 l (λ i p k. else i (omega arith) (d.head_none t t-in i (omega arith))), ap (λ (k : ℕ). greatest k f) z)

  module _ {l l' : ℕ} (l-in : l < link_count s) (own : end_by e s l ≡ t) (q : l' ≡ next_of e w l) (more : l < l') (few : l' ≤ link_count s) where
    pub own-next : l' < link_count s → end_by e s l' ≡ t
    own-next h = rw q (d.next_own l l-in (rw q at h)) ∙ own

    pub sum-next : {a v : ℕ} → a ≡ sum l f → v ≡ f l → a + v ≡ sum l' f
    sum-next {a} {v} p r =
        let z : l + 1 + (l' - (l + 1)) ≡ l' = omega arith in
        omega (
          arith,
          sum_more l f p r,
          sum-skip f (l + 1) (l' - (l + 1)) (λ i x y. else i (omega arith) (λ g. d.next_none l l-in i (omega arith) (omega arith) (rw own g))),
          ap (λ (k : ℕ). sum k f) z,
        )

    pub greatest-next : greatest l' f ≡ max (greatest l f) (f l)
    greatest-next =
        let z : l + 1 + (l' - (l + 1)) ≡ l' = omega arith in
        omega (
          arith,
          greatest-one l f,
          greatest-skip f (l + 1) (l' - (l + 1)) (λ i x y. else i (omega arith) (λ g. d.next_none l l-in i (omega arith) (omega arith) (rw own g))),
          ap (λ (k : ℕ). greatest k f) z,
        )
