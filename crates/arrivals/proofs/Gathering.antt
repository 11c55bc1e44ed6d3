-- All links gathered at their targets.
use Prim.Native.Nat.{ℕ, ◌+◌, ◌*◌, ◌≤◌, ◌<◌}
use mathlib.Core.Bool.{Bool, true}
use mathlib.Core.Path.{◌≡◌, refl, ap, ap₂, sym, ◌∙◌, subst}
use mathlib.Core.List.{List}
use native.Mathlib.Omega.{arith}
use native.Mathlib.Decide.{ℕ_discrete}
use borrow.Author.Tests.{eq-eqb, ne_eqb}
use lib.ListN.{length, get_or, set, length-set}
use lib.Seq.{get_or-set_same, get_or-set_other}
use Rattle.folds.specs.Folds.{both, sum}
use Rattle.folds.proofs.Tests.{pick-le}
use Rattle.folds.proofs.Loops.{sum-zero, sum_one}
use Rattle.folds.proofs.Laws.{sum-le}
use Rattle.sheet.specs.Sheet.{Sheet, task_count, link_count, target_of, bytes_of}
use Rattle.sheet.specs.Tables.{Ranged}
use Rattle.adjacency.specs.Frames.{Only}
use Rattle.adjacency.proofs.Frames.{only_none, only_set}
use Rattle.arrivals.specs.Layout.{bytes_from, seen_from, kept_length}
use Rattle.arrivals.specs.Kept.{counted_by, into, one_by, Gathered}
use Rattle.arrivals.specs.Steps.{Zero, GatheredTo}

-- in words of 0
pub gather_none : {s : Sheet} {w : List ℕ} → Zero 0 seen_from w → task_count s ≤ 256 → GatheredTo s 0 w
gather_none z few = record { number = λ t h. z.at t (omega arith) (omega arith) ∙ sym (sum-zero _); bytes = λ t h. z.at (bytes_from + t) (omega arith) (omega arith) ∙ sym (sum-zero _) }

module _ (s : Sheet) (w : List ℕ) (l : ℕ) (long : kept_length ≤ length w) (ranged : Ranged s) (l-in : l < link_count s) (d : GatheredTo s l w) where
  abbrev v : ℕ
  v = target_of s l

  module _ (x y : ℕ) (ex : x ≡ get_or w (target_of s l) 0 + 1) (ey : y ≡ get_or w (bytes_from + target_of s l) 0 + bytes_of s l) where
    abbrev next : List ℕ
    next = set (set w (target_of s l) x) (bytes_from + target_of s l) y

    v-in : (v < task_count s) × (task_count s ≤ 256)
    v-in = (ranged.target l l-in, ranged.few_tasks)

    number' : (t : ℕ) → t < task_count s → Dec (t ≡ v) → get_or next t 0 ≡ sum (l + 1) (counted_by (into s t) one_by (λ i. true))
    unfolding counted_by
    number' t h (yes e) =
        let a = v-in in
        rw e (get_or-set_other (set w v x) (bytes_from + v) v y 0 (omega arith) ∙ get_or-set_same w v x 0 (omega arith) ∙ ex ∙ ap (λ (z : ℕ). z + 1) (d.number v a.0)
        ∙ sym (sum_one l (counted_by (into s v) one_by (λ i. true)) ∙ rw (eq-eqb v v refl)))
    number' t h (no e) =
        let a = v-in in
        get_or-set_other (set w v x) (bytes_from + v) t y 0 (omega arith) ∙ get_or-set_other w v t x 0 (λ q. e (omega arith)) ∙ d.number t h
        ∙ sym (sum_one l (counted_by (into s t) one_by (λ i. true)) ∙ rw (ne_eqb v t (λ q. e (sym q))) (omega arith))

    bytes' : (t : ℕ) → t < task_count s → Dec (t ≡ v) → get_or next (bytes_from + t) 0 ≡ sum (l + 1) (counted_by (into s t) (bytes_of s) (λ i. true))
    unfolding counted_by
    bytes' t h (yes e) =
        let a = v-in in
        rw e (get_or-set_same (set w v x) (bytes_from + v) y 0 (simp length-set (omega arith)) ∙ ey ∙ ap (λ (z : ℕ). z + bytes_of s l) (d.bytes v a.0)
        ∙ sym (sum_one l (counted_by (into s v) (bytes_of s) (λ i. true)) ∙ rw (eq-eqb v v refl)))
    bytes' t h (no e) =
        let a = v-in in
        get_or-set_other (set w v x) (bytes_from + v) (bytes_from + t) y 0 (λ q. e (omega arith)) ∙ get_or-set_other w v (bytes_from + t) x 0 (omega arith) ∙ d.bytes t h
        ∙ sym (sum_one l (counted_by (into s t) (bytes_of s) (λ i. true)) ∙ rw (ne_eqb v t (λ q. e (sym q))) (omega arith))

    gather-more : GatheredTo s (l + 1) next
    gather-more = record { number = λ t h. number' t h (ℕ_discrete t v); bytes = λ t h. bytes' t h (ℕ_discrete t v) }

  few-terms : (q : ℕ → Bool) → sum l (counted_by q one_by (λ i. true)) ≤ l * 1
  unfolding counted_by
  few-terms q = sum-le l 1 _ (λ i h. pick-le (both (q i) true) 1 0 1 (omega arith) (omega arith))

  few_bytes : (q : ℕ → Bool) → sum l (counted_by q (bytes_of s) (λ i. true)) ≤ l * 65535
  unfolding counted_by
  few_bytes q = sum-le l 65535 _ (λ i h. pick-le (both (q i) true) (bytes_of s i) 0 65535 (omega (arith, ranged.sizes i (omega arith))) (omega arith))

  pub gather-small : (t : ℕ) → t < task_count s → (get_or w t 0 ≤ 1024) × (get_or w (bytes_from + t) 0 ≤ 67107840)
  gather-small t h =
      let z = ranged.few_links in
      (omega (arith, d.number t h, few-terms (into s t)), omega (arith, d.bytes t h, few_bytes (into s t)))

  -- as the code writes it
  pub gathered-by : (w₂ : List ℕ) {t b x y u z : ℕ} → t ≡ target_of s l → b ≡ bytes_of s l → x ≡ get_or w t 0 → y ≡ get_or w (bytes_from + t) 0 → u ≡ x + 1 → z ≡ y + b
      → w₂ ≡ set (set w t u) (bytes_from + t) z → Only 0 seen_from w w₂ × GatheredTo s (l + 1) w₂
  gathered-by w₂ {t} {b} {x} {y} {u} {z} et eb ex ey eu ez e =
      let eu' : u ≡ get_or w (target_of s l) 0 + 1 = eu ∙ ap (λ (p : ℕ). p + 1) (ex ∙ ap (λ (p : ℕ). get_or w p 0) et) in
      let ez' : z ≡ get_or w (bytes_from + target_of s l) 0 + bytes_of s l = ez ∙ ap₂ ◌+◌ (ey ∙ ap (λ (p : ℕ). get_or w (bytes_from + p) 0) et) eb in
      let e' : w₂ ≡ set (set w (target_of s l) u) (bytes_from + target_of s l) z = e ∙ ap (λ (p : ℕ). set (set w p u) (bytes_from + p) z) et in
      let q = ranged.target l l-in in
      let r = ranged.few_tasks in (
        subst (Only 0 seen_from w) (sym e')
            (only_set (bytes_from + target_of s l) z (omega arith) (omega arith) (only_set (target_of s l) u (omega arith) (omega arith) (only_none 0 seen_from w))),
        subst (GatheredTo s (l + 1)) (sym e') (gather-more u z eu' ez'),
      )

pub gathers-at : {l m : ℕ} {s : Sheet} {w : List ℕ} → l ≡ m → GatheredTo s l w → GatheredTo s m w
gathers-at {l} {m} {s} {w} e d = subst (λ (x : ℕ). GatheredTo s x w) e d

pub gathered-all : {s : Sheet} {w : List ℕ} → GatheredTo s (link_count s) w → Gathered s w
gathered-all d = record { number = d.number; bytes = d.bytes }
