-- Which words of the work area hold the schedule under construction.
use Rattle.std.specs.Prelude.{ℕ, ◌+◌, ◌-◌, ◌*◌, ◌/◌, ◌%◌, List, get_or, set}
use Rattle.workspace.specs.Area.{finishes_at, opened_at, placed_at, places_at, task_count_at}
use Rattle.folds.specs.Folds.{listed}
use Rattle.planner.specs.Schedule.{Schedule}

-- the place of t, and the task of turn i
abbrev pub on_in : List ℕ → ℕ → ℕ
on_in w t = get_or w (places_at + t) 0 % 65536

abbrev pub turn_in : List ℕ → ℕ → ℕ
turn_in w i = get_or w (places_at + i) 0 / 65536

-- t finishes when its work is done: it starts as much before, and both are 0 while it is not placed
abbrev pub finish_in : List ℕ → ℕ → ℕ
finish_in w t = get_or w (finishes_at + t) 0

abbrev pub start_in : List ℕ → ℕ → ℕ
start_in w t = finish_in w t - get_or w (16 + t) 0 % 65536

unfoldable pub schedule_in : List ℕ → Schedule
schedule_in w =
    record {
      on = listed (get_or w task_count_at 0) (λ t. on_in w t);
      start = listed (get_or w task_count_at 0) (λ t. start_in w t);
      finish = listed (get_or w task_count_at 0) (λ t. finish_in w t);
      order = listed (get_or w placed_at 0) (λ i. turn_in w i);
      opened = get_or w opened_at 0;
    }

-- the words with t on k, and with t at turn p
unfoldable pub place_words : List ℕ → ℕ → ℕ → List ℕ
place_words w t k = set w (places_at + t) (k + 65536 * (get_or w (places_at + t) 0 / 65536))

unfoldable pub turn_words : List ℕ → ℕ → ℕ → List ℕ
turn_words w p t = set w (places_at + p) (get_or w (places_at + p) 0 % 65536 + 65536 * t)

-- the words with t on k up to b, where p tasks were placed before, and o processors are open now
unfoldable pub put_words : List ℕ → ℕ → ℕ → ℕ → ℕ → ℕ → List ℕ
put_words w t k b p o = set (set (set (turn_words (place_words w t k) p t) (finishes_at + t) b) placed_at (p + 1)) opened_at o
