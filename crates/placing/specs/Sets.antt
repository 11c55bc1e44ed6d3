-- A set of processors as the bits of one number, and those of them that have the least value so far.
use Rattle.std.specs.Prelude.{ℕ, zero, suc, ◌+◌, ◌/◌, ◌%◌, ◌^◌, Bool, List, get_or, eqb, ltb}
use Rattle.std.specs.Int.Bits.{bit_or}
use Rattle.folds.specs.Folds.{pick, either}
use Rattle.arrivals.specs.Layout.{open_from}
use Rattle.placing.specs.declared.Tied.{Tied}

-- bit i of s: whether i is in the set s
unfoldable pub member : ℕ → ℕ → Bool
member s zero = eqb (s % 2) 1
member s (suc i) = member (s / 2) i

-- the least value so far, and the set of those that have it; with k, if it is admissible, and its value
abbrev pub tie_of : Tied → ℕ → Bool → ℕ → Tied
tie_of t k admissible v =
    pick admissible
    (pick (either (eqb t.set 0) (ltb v t.least)) (record { least = v; set = 2 ^ k })
    (pick (eqb v t.least) (record { least = v; set = bit_or t.set (2 ^ k) }) t))
    t

-- by what is kept of it, k is not open
unfoldable pub closed_in : List ℕ → ℕ → Bool
closed_in own k = eqb (get_or own (open_from + k) 0) 0
