-- The planner's own words, kept beside the schedule, so that nothing is computed twice: where each of their tables begins. The code
-- names the same numbers (src/lib.rt). A link is known once its source is placed.
use Rattle.std.specs.Prelude.{ℕ}

-- of task t, 256 words each: at t the links into it, and then their bytes
abbrev pub bytes_from : ℕ
bytes_from = 256

-- of task t: the known links into it
abbrev pub seen_from : ℕ
seen_from = 512

-- of task t: the latest arrival of its known links
abbrev pub arrivals_from : ℕ
arrivals_from = 768

-- of task t: the processor that the latest of them comes from
abbrev pub senders_from : ℕ
senders_from = 1024

-- of processor k, 16 words each: its end
abbrev pub ends_from : ℕ
ends_from = 1280

-- of processor k: its store
abbrev pub stores_from : ℕ
stores_from = 1296

-- of processor k: 1 if it is open, else 0
abbrev pub open_from : ℕ
open_from = 1312

-- of processor k: the known links from it to tasks that are not placed
abbrev pub waiting_from : ℕ
waiting_from = 1328

-- of processor k: the bytes of the links from it into the task of this turn
abbrev pub turn_bytes_from : ℕ
turn_bytes_from = 1344

-- of processor k: the number of the links from it into the task of this turn
abbrev pub turn_links_from : ℕ
turn_links_from = 1360

-- at 4 t + j the known links into task t from processors 4 j to 4 j + 3, a byte for each (1,024 words)
abbrev pub packed_from : ℕ
packed_from = 1376

-- how many words these are
abbrev pub kept_length : ℕ
kept_length = 2400
