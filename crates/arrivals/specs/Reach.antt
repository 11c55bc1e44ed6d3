-- The latest reach of a task and where it comes from, when one more comes.
use Rattle.std.specs.Prelude.{ℕ, max, ltb}
use Rattle.folds.specs.Folds.{pick}
use Rattle.arrivals.specs.declared.Reach.{Reach}

unfoldable pub further : Reach → ℕ → ℕ → Reach
further b k y = record { at = pick (ltb b.most y) k b.at; most = max b.most y }
