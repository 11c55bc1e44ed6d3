-- What a search answers, as an option of the definitions.
use Rattle.std.specs.Prelude.{ℕ, ◌<◌, Some, None}
use Rattle.std.specs.Prelude.{Option as Maybe}
use Rattle.std.proofs.Math.Option.{Option, none, some}

-- what a search answers: an index, or none
abbrev pub Found : Type 0
Found = Maybe ℕ

abbrev pub found_of : Found → Option ℕ
found_of (Some i) = some i
found_of None = none

-- an index that was found is below n
abbrev pub Below : ℕ → Found → Type 0
Below n (Some i) = i < n
Below n None = Unit {0}
