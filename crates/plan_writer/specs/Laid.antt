-- Bytes put where those behind them are still to be written.
use Rattle.std.specs.Prelude.{ℕ, ◌+◌, ◌≡◌, List, ◌++◌, length, take, drop}

-- these bytes were put into `old` at an offset, and r is the offset behind them; of what follows r the first three bytes may have changed, and no other
pub record Laid (old : List ℕ) (at : ℕ) (bytes last : List ℕ) (r : ℕ) : Type 0 where
  pub front : take r last ≡ take at old ++ bytes
  pub back : drop (r + 3) last ≡ drop (r + 3) old
  pub next : r ≡ at + length bytes
