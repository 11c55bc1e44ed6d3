-- The queue of each processor: the turns at which its tasks were placed, in rising number.
use Rattle.std.specs.Prelude.{ℕ, ◌+◌, ◌≤◌, ◌<◌, ◌≡◌, ◌≢◌, List, length, get_or}
use Rattle.planner.specs.Schedule.{Schedule, place_of}

-- the processor of the task that was placed at turn i
unfoldable pub place_at : Schedule → ℕ → ℕ
place_at σ i = place_of σ (get_or σ.order i 0)

-- b is the first turn from a on whose task stands on k, or the number of turns where there is none
pub record Onward (σ : Schedule) (k a b : ℕ) : Type 0 where
  pub low : a ≤ b
  pub few : b ≤ length σ.order
  pub own : b < length σ.order → place_at σ b ≡ k
  pub others : (i : ℕ) → a ≤ i → i < b → place_at σ i ≢ k

-- the turns from i on are in the queues: the first of processor k at k, and the next one on the same processor as turn j at 16 + j
pub record Queued (σ : Schedule) (i : ℕ) (q : List ℕ) : Type 0 where
  pub long : length q ≡ 272
  pub first : (k : ℕ) → k < 16 → Onward σ k i (get_or q k 0)
  pub next : (j : ℕ) → i ≤ j → j < length σ.order → Onward σ (place_at σ j) (j + 1) (get_or q (16 + j) 0)
