-- How many bytes each command of a bundle has. The code names the same numbers (src/lib.rt).
use Rattle.std.specs.Prelude.{ℕ}

-- the command that opens a programme, and those of a task
abbrev pub short_size : ℕ
short_size = 2

-- those of a link
abbrev pub long_size : ℕ
long_size = 3

abbrev pub claim_size : ℕ
claim_size = 5
