-- A listing in an output that is long enough for any.
use Rattle.std.specs.Prelude.{ℕ, ◌≤◌, ◌≡◌, List, length, take}
use Rattle.listing.specs.Listing.{listing}

-- the first n bytes of the output are the listing of these bytes
pub record PutIs (sheet out' : List ℕ) (n : ℕ) : Type 0 where
  pub within : n ≤ length out'
  pub same : take n out' ≡ listing sheet
