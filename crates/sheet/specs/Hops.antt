-- How far two processors of a cube are apart, and how long a message is under way between two processors.
use Rattle.std.specs.Prelude.{ℕ, ◌*◌}
use Rattle.std.specs.Int.Bits.{bit_xor}
use Rattle.std.specs.Int.Count.{ones}
use Rattle.folds.specs.Folds.{pick}
use Rattle.sheet.specs.Sheet.{Sheet, cost_of}

-- "the count of bits in which the two processor numbers differ"
unfoldable pub hops : ℕ → ℕ → ℕ
hops j k = ones (bit_xor j k)

-- the message of link l from processor j to processor k takes its cost, and on a cube its cost for each hop
unfoldable pub link_time : Sheet → ℕ → ℕ → ℕ → ℕ
link_time s l j k = pick s.cube (cost_of s l * hops j k) (cost_of s l)
