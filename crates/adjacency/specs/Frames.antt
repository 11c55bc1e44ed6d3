-- Words that were not written.
use Rattle.std.specs.Prelude.{ℕ, ◌≤◌, ◌<◌, ◌≡◌, List, length, get_or}

-- nothing was written below a, nor from b on
pub record Only (a b : ℕ) (w w' : List ℕ) : Type 0 where
  pub long : length w' ≡ length w
  pub low : (i : ℕ) → i < a → get_or w' i 0 ≡ get_or w i 0
  pub high : (i : ℕ) → b ≤ i → get_or w' i 0 ≡ get_or w i 0
