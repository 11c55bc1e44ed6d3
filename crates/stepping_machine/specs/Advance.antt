-- A processor as the code's record, and what one command makes of it.
use Rattle.std.specs.Prelude.{ℕ, ◌+◌, ◌<◌, max}
use Rattle.stepping_machine.specs.declared.processors.Processor.{Processor}

-- its numbers fit a word
abbrev pub Narrow : Processor → Type 0
Narrow p = (p.clock < 4294967296) × (p.position < 4294967296) × (p.store < 4294967296)

-- and so do those of a command: the time it waits for, what it adds to the clock and to the store
abbrev pub Small : ℕ → ℕ → ℕ → Type 0
Small wait work need = (wait < 4294967296) × (work < 4294967296) × (need < 4294967296)

-- p after such a command
abbrev pub after : Processor → ℕ → ℕ → ℕ → Processor
after p wait work need = record { clock = max p.clock wait + work; position = p.position + 1; store = p.store + need }
