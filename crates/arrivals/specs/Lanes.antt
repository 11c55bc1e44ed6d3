-- The start of a task on all sixteen processors, side by side, and what one link does to each.
use Rattle.std.specs.Prelude.{ℕ, ◌+◌, ◌*◌, ◌<◌, ◌≤◌, max, ◌≡◌, List, get_or, eqb}
use Rattle.folds.specs.Folds.{pick, greatest}
use Rattle.sheet.specs.Sheet.{Sheet, source_of, cost_of}
use Rattle.sheet.specs.Hops.{hops}
use Rattle.sheet.specs.Tables.{sheet_in}
use Rattle.planner.specs.Schedule.{Schedule, latest_finish, latest_start, place_of, finish_of}
use Rattle.planner.specs.Placing.{comes, reach_by, reach_on, unpacked, elsewhere, end_of, start_by, start_on}
use Rattle.schedule.specs.Layout.{schedule_in}
use Rattle.arrivals.specs.declared.Starts.{Starts}
use Rattle.arrivals.specs.declared.Row.{Row}

abbrev pub lane : Starts → ℕ → ℕ
lane r k = get_or r.at k 0

-- lane k holds f k
pub record Lanes (f : ℕ → ℕ) (r : Starts) : Type 0 where
  pub on : (k : ℕ) → k < 16 → lane r k ≡ f k

-- each lane of r is g of that of q
abbrev pub Steps : (ℕ → ℕ → ℕ) → Starts → Starts → Type 0
Steps g q r = Lanes (λ k. g k (lane q k)) r

-- a start x on k, past one link more, whose source ends at finish, and whose message takes a time: "finish + (0 if on k, else cost)"
unfoldable pub start_past : ℕ → ℕ → ℕ → ℕ → ℕ → ℕ
start_past source finish time k x = max x (finish + pick (eqb source k) 0 time)

-- a start x on k past one link more where receives take time: the message that is there at `reach` is received, unless it comes from k itself
unfoldable pub start_unpacked : ℕ → ℕ → ℕ → ℕ → ℕ → ℕ
start_unpacked source reach unpacking k x = pick (eqb source k) x (max x reach + unpacking)

-- row k holds the hops from a processor to k
pub record Away (source : ℕ) (r : Row) : Type 0 where
  pub on : (k : ℕ) → k < 16 → get_or r.at k 0 ≡ hops source k

-- a start x on k past one link more on a cube: the message takes its cost for each hop
unfoldable pub start_hopped : Row → ℕ → ℕ → ℕ → ℕ → ℕ → ℕ → ℕ
start_hopped row source finish cost unpacking k x = start_unpacked source (finish + cost * get_or row.at k 0) unpacking k x

-- a start x on k, past link l, whose source is placed
unfoldable pub start_beyond : Sheet → Schedule → ℕ → ℕ → ℕ → ℕ
start_beyond s σ l k x =
    pick s.cube (start_unpacked (place_of σ (source_of s l)) (reach_on s σ k l) s.unpacking k x)
    (pick (eqb s.unpacking 0) (start_past (place_of σ (source_of s l)) (finish_of σ (source_of s l)) (cost_of s l) k x) (start_unpacked (place_of σ (source_of s l)) (reach_by s σ l) s.unpacking k x))

-- the start of t on k by the links below l: nothing waits for a predecessor on k, which ends no earlier than that does
unfoldable pub start_to : Sheet → Schedule → ℕ → ℕ → ℕ → ℕ
start_to s σ t l k = unpacked s (elsewhere s σ t k) (reach_on s σ k) (end_of s σ k) l

-- the start of a partly ready t on k by the links below l
unfoldable pub partly_to : Sheet → Schedule → ℕ → ℕ → ℕ → ℕ
partly_to s σ t l k = max (end_of s σ k) (greatest l (start_by s σ t k))

-- when t, on a fresh processor at x, has received what link l brings besides
unfoldable pub fresh_past : Sheet → Schedule → ℕ → ℕ → ℕ → ℕ
fresh_past s σ t l x = pick (comes s σ t l) (max x (reach_by s σ l) + s.unpacking) x

-- no lane is so late that one link more could pass a word
pub record Soon (r : Starts) : Type 0 where
  pub soon : (k : ℕ) → k < 16 → lane r k ≤ latest_start

-- the starts of t
abbrev pub Started : List ℕ → ℕ → Starts → Type 0
Started w t r = Lanes (start_on (sheet_in w) (schedule_in w) t) r

-- no finish is so late that starts could pass a word, or keys two
pub record Early (σ : Schedule) : Type 0 where
  pub early : (u : ℕ) → finish_of σ u ≤ latest_finish
