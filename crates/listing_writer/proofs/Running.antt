-- The processors that run a task, marked task by task, and counted.
use Prim.Native.Nat.{ℕ, ◌+◌, ◌≤◌, ◌<◌}
use mathlib.Core.Path.{◌≡◌, refl, sym, ap, ◌∙◌}
use mathlib.Core.Bool.{Bool, true, false}
use mathlib.Core.List.{List}
use native.Mathlib.Omega.{arith}
use native.Mathlib.Decide.{ℕ_discrete}
use borrow.Author.Tests.{eq-eqb, ne_eqb}
use lib.ListN.{length, get_or, set, length-set}
use lib.Seq.{get_or-set_same, get_or-set_other}
use Rattle.folds.specs.Folds.{bit, either, any, sum}
use Rattle.folds.proofs.Loops.{any-zero, any-one, sum_more, sum-at}
use Rattle.sheet.specs.Sheet.{Sheet, task_count}
use Rattle.planner.specs.Schedule.{Schedule, place_of, stands}
use Rattle.planner.specs.Placing.{is_open}
use Rattle.planner.specs.Planner.{running}
use Rattle.listing_writer.specs.Lines.{Marked}
use Rattle.listing_writer.specs.declared.rows.Runs.{Runs}

-- of the tasks below t
pub record Marks (σ : Schedule) (t : ℕ) (w : List ℕ) : Type 0 where
  pub long : length w ≡ 16
  pub on : (k : ℕ) → k < 16 → get_or w k 0 ≡ bit (any t (λ u. stands σ u k))

pub marks-none : (σ : Schedule) (w : List ℕ) → length w ≡ 16 → ((k : ℕ) → k < 16 → get_or w k 0 ≡ 0) → Marks σ 0 w
marks-none σ w h z = record { long = h; on = λ k l. z k l ∙ sym (ap bit (any-zero (λ u. stands σ u k))) }

pub marks-more : {σ : Schedule} {t x : ℕ} {w : List ℕ} → Marks σ t w → x ≡ place_of σ t → x < 16 → Marks σ (t + 1) (set w x 1)
unfolding stands
marks-more {σ} {t} {x} {w} g e h =
    record { long = length-set w x 1 ∙ g.long; on = λ k l. at k l (ℕ_discrete k x) ∙ sym (ap bit (any-one t (λ u. stands σ u k))) }
  where
    whatever : (b : Bool) → either b true ≡ true
    whatever true = refl
    whatever false = refl

    neither : (b : Bool) → either b false ≡ b
    neither true = refl
    neither false = refl

    at : (k : ℕ) → k < 16 → Dec (k ≡ x) → get_or (set w x 1) k 0 ≡ bit (either (any t (λ u. stands σ u k)) (stands σ t k))
    at k l (yes q) =
        ap (λ (i : ℕ). get_or (set w x 1) i 0) q ∙ get_or-set_same w x 1 0 (omega (arith, g.long)) ∙
        sym (ap bit (ap (either (any t (λ u. stands σ u k))) (eq-eqb (place_of σ t) k (sym e ∙ sym q)) ∙ whatever (any t (λ u. stands σ u k))))
    at k l (no q) =
        get_or-set_other w x k 1 0 q ∙ g.on k l ∙
        sym (ap bit (ap (either (any t (λ u. stands σ u k))) (ne_eqb (place_of σ t) k (λ z. q (sym z ∙ sym e))) ∙ neither (any t (λ u. stands σ u k))))

pub marks-end : {σ : Schedule} {t n : ℕ} {r : Runs} → Marks σ t r.at → t ≡ n → Marked σ n r
marks-end {σ} {t} {n} {r} g e = record { on = λ k l. g.on k l ∙ ap (λ (m : ℕ). bit (any m (λ u. stands σ u k))) e }

-- the count of the marks below k
module _ (s : Sheet) (σ : Schedule) {r : Runs} (m : Marked σ (task_count s) r) where
  pub mark-is : {k x : ℕ} → k < 16 → x ≡ get_or r.at k 0 → x ≡ bit (is_open s σ k)
  unfolding is_open
  mark-is {k} h e = e ∙ m.on k h

  pub mark-low : {k x : ℕ} → k < 16 → x ≡ get_or r.at k 0 → x ≤ 1
  mark-low {k} {x} h e = low (is_open s σ k) (mark-is h e)
    where
      low : (b : Bool) → x ≡ bit b → x ≤ 1
      low true q = omega arith
      low false q = omega arith

  pub count-more : {k a x : ℕ} → a ≡ sum k (λ j. bit (is_open s σ j)) → k < 16 → x ≡ get_or r.at k 0 → a + x ≡ sum (k + 1) (λ j. bit (is_open s σ j))
  count-more {k} ea h ex = sum_more k (λ j. bit (is_open s σ j)) ea (mark-is h ex)

pub count-end : (s : Sheet) (σ : Schedule) {k n a : ℕ} → a ≡ sum k (λ j. bit (is_open s σ j)) → k ≡ n → n ≡ s.processors → a ≡ running s σ
unfolding running
count-end s σ {k} ea e en = sum-at (λ j. bit (is_open s σ j)) k s.processors ea (e ∙ en)
