-- Whose a key is; and a table of 512 keys. Word 512 + b is the greatest of the sixteen keys from 16 b on.
use Rattle.std.specs.Prelude.{ℕ, zero, suc, ◌+◌, ◌*◌, ◌-◌, ◌%◌, ◌<◌, ◌≡◌, ◌≢◌, List, length, get_or}
use Rattle.std.proofs.Math.Option.{Option, none, some}
use Rattle.folds.specs.Folds.{greatest}

-- the i-th key from `at` on
unfoldable pub key_by : List ℕ → ℕ → ℕ → ℕ
key_by q at i = get_or q (at + i) 0

-- the lowest digit of a key in base n, counted down from n - 1, says whose it is; the key 0 is nobody's
abbrev pub index_of : ℕ → ℕ → Option ℕ
index_of n zero = none
index_of n (suc x) = some (n - 1 - suc x % n)

pub record Blocked (q : List ℕ) : Type 0 where
  pub long : length q ≡ 544
  pub most : (b : ℕ) → b < 32 → get_or q (512 + b) 0 ≡ greatest 16 (key_by q (16 * b))

-- key i is x now, and the others are as they were
pub record Changed (q q' : List ℕ) (i x : ℕ) : Type 0 where
  pub blocked : Blocked q'
  pub here : get_or q' i 0 ≡ x
  pub others : (j : ℕ) → j < 512 → j ≢ i → get_or q' j 0 ≡ get_or q j 0
