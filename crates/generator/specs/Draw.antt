-- Draws that can be made again: Marsaglia's 32-bit xorshift, and a second state that grows by a fixed number.
use Rattle.std.specs.Prelude.{ℕ, zero, suc, ◌+◌, ◌*◌, ◌/◌, ◌%◌, ◌^◌, bit_xor}
use Rattle.generator.specs.declared.draws.Draws.{Draws}

-- x and itself moved left or right by n bits of 32, in exclusive or
abbrev pub left_by : ℕ → ℕ → ℕ
left_by n x = bit_xor x ((x * 2 ^ n) % 2 ^ 32)

abbrev pub right_by : ℕ → ℕ → ℕ
right_by n x = bit_xor x (x / 2 ^ n)

-- "xorshift with left 13, right 17, left 5 on the seed's state"
abbrev pub xorshift : ℕ → ℕ
xorshift x = left_by 5 (right_by 17 (left_by 13 x))

-- "a second state, first 0"
abbrev pub start_of : ℕ → Draws
start_of seed = record { shifted = seed; grown = 0 }

-- one draw further: "then a second state grows by 362,437 modulo 4,294,967,296"
unfoldable pub next_of : Draws → Draws
next_of d = record { shifted = xorshift d.shifted; grown = (d.grown + 362437) % 2 ^ 32 }

-- "the draw is the sum of both states modulo the same"
abbrev pub draw_of : Draws → ℕ
draw_of d = (d.shifted + d.grown) % 2 ^ 32

-- the states behind n draws more
unfoldable pub after : ℕ → Draws → Draws
after zero d = d
after (suc n) d = next_of (after n d)

-- the draw that comes k-th behind d
unfoldable pub drawn : ℕ → Draws → ℕ
drawn k d = draw_of (after k d)
