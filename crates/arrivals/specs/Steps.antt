-- What becomes of all that is kept when a task is placed, and how it begins, step by step.
use Rattle.std.specs.Prelude.{ℕ, ◌+◌, ◌*◌, ◌/◌, ◌≤◌, ◌<◌, Bool, true, false, not, ◌≡◌, List, length, get_or, set, eqb, ltb}
use Rattle.folds.specs.Folds.{both, either, sum}
use Rattle.sheet.specs.Sheet.{Sheet, task_count, link_count, source_of, target_of, bytes_of}
use Rattle.sheet.specs.Tables.{Ranged}
use Rattle.planner.specs.Schedule.{Schedule, place_of, finish_of, placed}
use Rattle.arrivals.specs.Layout.{bytes_from, seen_from, arrivals_from, senders_from, ends_from, waiting_from, turn_links_from, packed_from}
use Rattle.arrivals.specs.Kept.{counted_by, into, one_by, Closed}
use Rattle.arrivals.specs.declared.Reach.{Reach}

-- the words with one more link into v from k
unfoldable pub count_words : List ℕ → ℕ → ℕ → ℕ → Reach → ℕ → ℕ → List ℕ
count_words w v k seen reach pending number =
    set (set (set (set (set w (seen_from + v) seen) (arrivals_from + v) reach.most) (senders_from + v) reach.at) (waiting_from + k) pending) (packed_from + (4 * v + k / 4)) number

-- counted are the links from placed tasks, but of those from t only the ones below i
unfoldable pub up_to : Sheet → Schedule → ℕ → ℕ → ℕ → Bool
up_to s σ t i l = both (placed σ (source_of s l)) (either (not (eqb (source_of s l) t)) (ltb l i))

-- all but the words of the counted links is as it was
pub record Beside (w w' : List ℕ) : Type 0 where
  pub long : length w' ≡ length w
  pub low : (i : ℕ) → i < seen_from → get_or w' i 0 ≡ get_or w i 0
  pub mid : (i : ℕ) → ends_from ≤ i → i < waiting_from → get_or w' i 0 ≡ get_or w i 0

-- t can go on k
pub record Placeable (s : Sheet) (σ : Schedule) (t k : ℕ) : Type 0 where
  pub ranged : Ranged s
  pub on_long : length σ.on ≡ task_count s
  pub finish_long : length σ.finish ≡ task_count s
  pub task : t < task_count s
  pub on : k < 16
  pub free : 16 ≤ place_of σ t
  pub ready : (l : ℕ) → l < link_count s → target_of s l ≡ t → placed σ (source_of s l) ≡ true
  pub closed : Closed s σ

-- t stands on k until f, and its successors are not placed
pub record Landed (s : Sheet) (σ : Schedule) (t k f : ℕ) : Type 0 where
  pub on : placed σ t ≡ true
  pub place : place_of σ t ≡ k
  pub finish : f ≡ finish_of σ t
  pub before : (l : ℕ) → l < link_count s → source_of s l ≡ t → placed σ (target_of s l) ≡ false

-- the links into the task of this turn from the processors below j wait no more
pub record Released (j : ℕ) (w w' : List ℕ) : Type 0 where
  pub long : length w' ≡ length w
  pub low : (i : ℕ) → i < waiting_from → get_or w' i 0 ≡ get_or w i 0
  pub high : (i : ℕ) → waiting_from + j ≤ i → get_or w' i 0 ≡ get_or w i 0
  pub pending : (i : ℕ) → i < j → get_or w' (waiting_from + i) 0 + get_or w (turn_links_from + i) 0 ≡ get_or w (waiting_from + i) 0

-- from each processor no more links lead into the task of this turn than wait
pub record Enough (w : List ℕ) : Type 0 where
  pub most : (j : ℕ) → j < 16 → get_or w (turn_links_from + j) 0 ≤ get_or w (waiting_from + j) 0

-- the words from a up to e are 0
pub record Zero (a e : ℕ) (w : List ℕ) : Type 0 where
  pub at : (i : ℕ) → a ≤ i → i < e → get_or w i 0 ≡ 0

-- the links below l are gathered
pub record GatheredTo (s : Sheet) (l : ℕ) (w : List ℕ) : Type 0 where
  pub number : (t : ℕ) → t < task_count s → get_or w t 0 ≡ sum l (counted_by (into s t) one_by (λ i. true))
  pub bytes : (t : ℕ) → t < task_count s → get_or w (bytes_from + t) 0 ≡ sum l (counted_by (into s t) (bytes_of s) (λ i. true))
