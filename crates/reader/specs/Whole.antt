-- Where a number can be read: an operand or a command of 8, 16 or 32 bits.
use Rattle.std.specs.Prelude.{ℕ, ◌+◌, ◌≤◌, ◌≡◌, ◌⊎◌, List, length}

-- a number of so many bytes lies whole in b from this offset on
pub record Whole (b : List ℕ) (at width : ℕ) : Type 0 where
  pub bits : (width ≡ 1) ⊎ ((width ≡ 2) ⊎ (width ≡ 4))
  pub room : at + width ≤ length b
