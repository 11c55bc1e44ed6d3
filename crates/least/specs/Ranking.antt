-- C-12's order and its choice (better/specs/Orders, Choices), of bundles with the bytes that a writer gives them.
use Rattle.std.specs.Prelude.{ℕ, Bool, true, false, List}
use Rattle.bundle.specs.Bundle.{Bundle}
use Rattle.bundle.specs.Writing.{bundle_bytes}
use Rattle.better.specs.Orders.{Rank, by_bytes, by_rank}
use Rattle.better.specs.Ranks.{runners}
use Rattle.better.specs.Choices.{chosen_by}
use Rattle.std.specs.declared.cmp.Ordering.{Ordering as Order}
use Rattle.std.specs.declared.cmp.Ordering.TheVariants.{Less, Equal, Greater}

abbrev pub rank : Bundle → Rank
rank b = record { claim = b.claim; runners = runners b; bytes = bundle_bytes b }

unfoldable pub order : Bundle → Bundle → Order
order a b = by_rank (rank a) (rank b)

-- the better of two bundles, the first of equals
unfoldable pub choice : Bundle → Bundle → Bundle
choice a b = chosen_by order a b

abbrev pub is_less : Order → Bool
is_less Less = true
is_less Equal = false
is_less Greater = false

-- a is better than b
unfoldable pub ahead : Bundle → Bundle → Bool
ahead a b = is_less (order a b)

-- the bytes a come before the bytes b
unfoldable pub lower : List ℕ → List ℕ → Bool
lower a b = is_less (by_bytes a b)
