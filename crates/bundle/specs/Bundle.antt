-- A programme bundle: for each processor the commands of its programme, and the claimed time.
use Rattle.std.specs.Prelude.{ℕ, List, [], length, get_or}

pub data Command : Type 0 where
  run : ℕ → Command
  send : ℕ → Command
  receive : ℕ → Command
  -- the result of a task, and the received message of a link, are given back
  release : ℕ → Command
  discard : ℕ → Command

pub record Bundle : Type 0 where
  pub programmes : List (List Command)
  pub claim : ℕ

unfoldable pub programme_count : Bundle → ℕ
programme_count b = length b.programmes

unfoldable pub programme_of : Bundle → ℕ → List Command
programme_of b k = get_or b.programmes k []
