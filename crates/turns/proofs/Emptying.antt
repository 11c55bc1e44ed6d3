-- The words of the empty schedule.
use Prim.Native.Nat.{ℕ, ◌+◌, ◌-◌, ◌%◌, ◌≤◌, ◌<◌}
use mathlib.Core.Path.{◌≡◌, ap, ap₂, sym, ◌∙◌}
use mathlib.Core.Logic.{◌≢◌}
use mathlib.Core.List.{List, []}
use native.Mathlib.Omega.{arith}
use lib.ListN.{length, get_or, set, take, drop, length-take, length-drop, length-set, replicate, length-replicate, get_or-replicate}
use borrow.Rule.Slice.PartMut.{put_mid}
use Rattle.std.proofs.lemmas.List.{get_or-append_right, get_or-drop, get_or-take, length-take-le}
use Rattle.std.proofs.lemmas.List.Edits.{length-paste}
use Rattle.std.proofs.lemmas.Slice.{drop-put_mid, put_mid-paste, take-put_mid, take-put_mid_below}
use lib.Seq.{get_or-set_same, get_or-set_other, ext_get_or}
use Rattle.workspace.specs.Area.{fixed, finishes_at, opened_at, placed_at, places_at}
use Rattle.folds.specs.Folds.{listed}
use Rattle.folds.proofs.Loops.{listed-zero}
use Rattle.folds.proofs.Lists.{length-listed, get_or-listed}
use Rattle.sheet.specs.Sheet.{task_count}
use Rattle.sheet.specs.Tables.{sheet_in, Loaded}
use Rattle.sheet.proofs.Rows.{tasks-in, ranged}
use Rattle.planner.specs.Schedule.{empty}
use Rattle.schedule.specs.Layout.{on_in, turn_in, finish_in, start_in, schedule_in}
use Rattle.adjacency.proofs.Frames.{only_set}
use Rattle.turns.specs.Turns.{Cleared, Emptied}

-- n words from a on filled with one number
module _ (w s : List ℕ) (a k n v : ℕ) (few : a + n ≤ length w) (same : s ≡ replicate n v) (count : k ≡ n) where
  abbrev filled : List ℕ
  filled = put_mid a k w s

  wide : length s ≡ n
  wide = ap length same ∙ length-replicate n v

  filled-long : length filled ≡ length w
  filled-long = ap length (put_mid-paste a k w s (replicate n v) n same (sym count) (sym (length-replicate n v))) ∙ length-paste w a (replicate n v) n few (omega (arith, length-replicate n v))

  filled-below : (i : ℕ) → i < a → get_or filled i 0 ≡ get_or w i 0
  filled-below i h = sym (get_or-take a filled i 0 h) ∙ ap (λ (l : List ℕ). get_or l i 0) (take-put_mid_below a k w s a (omega arith) (omega arith)) ∙ get_or-take a w i 0 h

  filled-inside : (i : ℕ) → i < n → get_or filled (a + i) 0 ≡ v
  filled-inside i h =
      let e : a + i - a ≡ i = omega arith in
      sym (get_or-take (a + n) filled (a + i) 0 (omega arith))
      ∙ ap (λ (l : List ℕ). get_or l (a + i) 0) (take-put_mid a k w s (a + n) (omega (arith, wide)) (omega arith))
      ∙ get_or-append_right (take a w) s a (a + i) 0 (length-take-le a w (omega arith)) (omega arith)
      ∙ ap₂ (λ (l : List ℕ) (j : ℕ). get_or l j 0) same e
      ∙ get_or-replicate n i v 0 h

  filled-above : (i : ℕ) → a + n ≤ i → get_or filled i 0 ≡ get_or w i 0
  filled-above i h =
      let r : ℕ = i - (a + n) in
      let e : i ≡ a + n + r = omega arith in
      ap (λ (j : ℕ). get_or filled j 0) e
      ∙ sym (get_or-drop (a + n) filled r 0)
      ∙ ap (λ (l : List ℕ). get_or l r 0) (drop-put_mid a k w s (a + n) (omega arith) (omega arith) (omega (arith, wide)))
      ∙ get_or-drop (a + n) w r 0
      ∙ ap (λ (j : ℕ). get_or w j 0) (sym e)

pub cleared-by : (w p f : List ℕ) (j k n : ℕ) → fixed ≤ length w → n ≤ 256 → j ≡ n → k ≡ n
    → p ≡ replicate (length (take j (drop places_at w))) 16 → f ≡ replicate (length (take k (drop finishes_at (put_mid places_at j w p)))) 0
    → Cleared w n (put_mid finishes_at k (put_mid places_at j w p) f)
cleared-by w p f j k n long few ej ek sp sf =
    let u = put_mid places_at j w p in
    let a : places_at + n ≤ length w = omega arith in
    let ep : p ≡ replicate n 16 = sp ∙ ap (λ (m : ℕ). replicate m 16) (omega (arith, length-take {A = ℕ}, length-drop {A = ℕ})) in
    let e = filled-long w p places_at j n 16 a ep ej in
    let b : finishes_at + n ≤ length u = omega arith in
    let ef : f ≡ replicate n 0 = sf ∙ ap (λ (m : ℕ). replicate m 0) (omega (arith, length-take {A = ℕ}, length-drop {A = ℕ})) in
    record {
      only = record {
        long = filled-long u f finishes_at k n 0 b ef ek ∙ e;
        low = λ i h. filled-below u f finishes_at k n 0 b ef ek i (omega arith) ∙ filled-below w p places_at j n 16 a ep ej i h;
        high = λ i h. filled-above u f finishes_at k n 0 b ef ek i (omega arith) ∙ filled-above w p places_at j n 16 a ep ej i (omega arith);
      };
      on = λ i h. filled-below u f finishes_at k n 0 b ef ek (places_at + i) (omega arith) ∙ filled-inside w p places_at j n 16 a ep ej i h;
      finish = λ i h. filled-inside u f finishes_at k n 0 b ef ek i h;
    }

listed_same : (n v : ℕ) (f : ℕ → ℕ) → ((i : ℕ) → i < n → f i ≡ v) → listed n f ≡ replicate n v
listed_same n v f h =
    ext_get_or 0 (listed n f) (replicate n v) (length-listed n f ∙ sym (length-replicate n v))
    (λ i l. let k : i < n = rw (length-listed n f) at l in get_or-listed n f i 0 k ∙ h i k ∙ sym (get_or-replicate n i v 0 k))

module _ {w₀ w : List ℕ} {t : ℕ} (loaded : Loaded w₀) (d : Cleared w₀ t w) (e : task_count (sheet_in w₀) ≤ t) where
  abbrev new : List ℕ
  new = set (set w opened_at 0) placed_at 0

  away : (i : ℕ) → i ≢ opened_at → i ≢ placed_at → get_or new i 0 ≡ get_or w i 0
  away i a b = simp get_or-set_other

  count : get_or new 0 0 ≡ task_count (sheet_in w₀)
  count = away 0 (omega arith) (omega arith) ∙ d.only.low 0 (omega arith) ∙ sym (tasks-in w₀)

  table : (f : ℕ → ℕ) (v : ℕ) → ((u : ℕ) → u < t → u < 256 → f u ≡ v) → listed (get_or new 0 0) f ≡ replicate (task_count (sheet_in w₀)) v
  table f v each =
      ap (λ (m : ℕ). listed m f) count ∙ listed_same (task_count (sheet_in w₀)) v f (λ i l. let few = (ranged w₀ loaded).few_tasks in each i (omega arith) (omega arith))

  finished : (u : ℕ) → u < t → u < 256 → finish_in new u ≡ 0
  finished u h k = away (finishes_at + u) (omega arith) (omega arith) ∙ d.finish u h

  placed-zero : get_or new placed_at 0 ≡ 0
  placed-zero = get_or-set_same (set w opened_at 0) placed_at 0 0 (simp length-set (omega (arith, d.only.long, loaded.long)))

  opened-zero : get_or new opened_at 0 ≡ 0
  opened-zero =
      let a : (◌≡◌ {A = ℕ} opened_at placed_at → ⊥) = omega arith in
      let l : opened_at < length w = omega (arith, d.only.long, loaded.long) in
      simp (get_or-set_other, get_or-set_same)

  schedule-zero : schedule_in new ≡ empty (sheet_in w₀)
  unfolding schedule_in
  schedule-zero =
      let on = table (λ i. on_in new i) 16 (λ u h k. ap (λ (x : ℕ). x % 65536) (away (places_at + u) (omega arith) (omega arith) ∙ d.on u h)) in
      let start = table (λ i. start_in new i) 0 (λ u h k. omega (arith, finished u h k)) in
      let finish = table (λ i. finish_in new i) 0 finished in
      let order : listed (get_or new placed_at 0) (λ i. turn_in new i) ≡ [] = ap (λ (m : ℕ). listed m (λ i. turn_in new i)) placed-zero ∙ listed-zero _ in
      λ x. record { on = on x; start = start x; finish = finish x; order = order x; opened = opened-zero x }

  pub emptied : Emptied w₀ new
  emptied =
      record {
        only = only_set placed_at 0 (omega arith) (omega arith) (only_set opened_at 0 (omega arith) (omega arith) d.only);
        schedule = schedule-zero;
        placed = placed-zero;
      }
