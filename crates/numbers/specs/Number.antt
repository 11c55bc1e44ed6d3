-- Unsigned numbers in bytes, lowest byte first.
use Rattle.std.specs.Prelude.{ℕ, zero, suc, ◌+◌, ◌*◌, ◌/◌, ◌%◌, ◌<◌, ◌≡◌, List, [], ◌∷◌, ◌++◌, length, get_or, take, drop}

-- every number of b is a byte
abbrev pub Bytes : List ℕ → Type 0
Bytes b = (i : ℕ) → get_or b i 0 < 256

-- the number in the w bytes of b from index i
unfoldable pub number_at : ℕ → List ℕ → ℕ → ℕ
number_at zero b i = 0
number_at (suc w) b i = get_or b i 0 + 256 * number_at w b (suc i)

-- the w lowest bytes of n
abbrev pub number_bytes : ℕ → ℕ → List ℕ
number_bytes zero n = []
number_bytes (suc w) n = n % 256 ∷ number_bytes w (n / 256)

-- b with the bytes v in the place of those from index i
unfoldable pub stored : List ℕ → ℕ → List ℕ → List ℕ
stored b i v = take i b ++ v ++ drop (i + length v) b

-- these bytes were put into `old` at an offset, all else is as it was, and r is the offset behind them
pub record Put (old : List ℕ) (at : ℕ) (bytes last : List ℕ) (r : ℕ) : Type 0 where
  pub left : last ≡ stored old at bytes
  pub next : r ≡ at + length bytes
