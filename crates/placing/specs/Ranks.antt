-- A processor's key in a placing step says in one number how good it is: by its value, then by the lower number.
use Rattle.std.specs.Prelude.{ℕ, ◌+◌, ◌*◌, ◌-◌, Bool, List, get_or, leb}
use Rattle.std.proofs.Math.Option.{Option}
use Rattle.folds.specs.Folds.{pick, both}
use Rattle.readiness.specs.Keys.{index_of}
use Rattle.sheet.specs.Sheet.{Sheet}
use Rattle.planner.specs.Schedule.{Schedule}
use Rattle.planner.specs.Placing.{end_of, start_on, barred}
use Rattle.planner.specs.Planner.{may_join, may_take, may_crowd}
use Rattle.arrivals.specs.Layout.{ends_from, waiting_from}

-- the least value first
unfoldable pub low_key : ℕ → ℕ → ℕ
low_key value k = (4294967296 - value) * 16 + (15 - k)

-- the greatest value first
unfoldable pub high_key : ℕ → ℕ → ℕ
high_key value k = (value + 1) * 16 + (15 - k)

-- the processor of a key, and none of 0
abbrev pub processor_of : ℕ → Option ℕ
processor_of x = index_of 16 x

-- the key of k for t in each step, 0 where the step may not take k
module _ (s : Sheet) (σ : Schedule) (t : ℕ) where
  unfoldable pub join_key : ℕ → ℕ
  join_key k = pick (may_join s (barred s) σ t k) (low_key (start_on s σ t k) k) 0

  unfoldable pub idle_key : ℕ → ℕ
  idle_key k = pick (may_take s (barred s) σ t k) (high_key (end_of s σ k) k) 0

  unfoldable pub last_key : ℕ → ℕ
  last_key k = pick (may_crowd s (barred s) σ t k) (low_key (start_on s σ t k) k) 0

-- by what is kept of it, k ends by a, and no more than d links from it wait
unfoldable pub may_be_idle : List ℕ → ℕ → ℕ → ℕ → Bool
may_be_idle w a d k = both (leb (get_or w (ends_from + k) 0) a) (leb (get_or w (waiting_from + k) 0) d)
