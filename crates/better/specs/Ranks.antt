-- The rank of a bundle: its claim, how many processors run a task, and its bytes.
use Rattle.std.specs.Prelude.{ℕ, Bool, true, false, List, [], ◌∷◌}
use Rattle.std.proofs.Math.Option.{Option, none, some}
use Rattle.folds.specs.Folds.{bit, either, sum}
use Rattle.folds.specs.Answers.{Answer, value, refused}
use Rattle.bundle.specs.Bundle.{Command, run, send, receive, release, discard, Bundle, programme_count, programme_of}
use Rattle.checker.specs.Checker.{check}
use Rattle.better.specs.Orders.{Rank}

abbrev pub is_run : Command → Bool
is_run (run t) = true
is_run (send l) = false
is_run (receive l) = false
is_run (release t) = false
is_run (discard l) = false

-- a programme runs a task
unfoldable pub runs_task : List Command → Bool
runs_task [] = false
runs_task (c ∷ cs) = either (is_run c) (runs_task cs)

-- how many "processors that run a task": programmes without a run are not counted
abbrev pub runner_of : Bundle → ℕ → ℕ
runner_of b k = bit (runs_task (programme_of b k))

unfoldable pub runners : Bundle → ℕ
runners b = sum (programme_count b) (runner_of b)

-- the rank of a bundle by what the checker says of it: a refused one has none
abbrev pub rank_by : List ℕ → Answer Bundle → Option Rank
rank_by bytes (value b) = some (record { claim = b.claim; runners = runners b; bytes = bytes })
rank_by bytes (refused n at) = none

unfoldable pub rank_of : List ℕ → List ℕ → Option Rank
rank_of sheet bundle = rank_by bundle (check sheet bundle)
