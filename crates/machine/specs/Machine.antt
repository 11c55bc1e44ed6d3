-- The machine: processors with a clock, a position and a store in use, the stamps of the messages sent, and one step.
use Rattle.std.specs.Prelude.{ℕ, zero, suc, ◌+◌, max, Bool, true, false, List, get_or, set, replicate}
use Rattle.std.proofs.Math.Option.{Option, none, some}
use Rattle.std.proofs.Math.ListN.{get_elem?}
use Rattle.folds.specs.Folds.{then}
use Rattle.sheet.specs.Sheet.{Sheet, work_of, target_of, link_count}
use Rattle.sheet.specs.Hops.{link_time}
use Rattle.bundle.specs.Bundle.{Command, run, send, receive, release, discard, Bundle, programme_count, programme_of}
use Rattle.admission.specs.Counting.{stored}
use Rattle.admission.specs.Messages.{home}

pub record Processor : Type 0 where
  pub clock : ℕ
  pub position : ℕ
  pub store : ℕ

pub record State : Type 0 where
  pub processors : List Processor
  pub stamps : List (Option ℕ)

abbrev pub fresh_processor : Processor
fresh_processor = record { clock = 0; position = 0; store = 0 }

-- "every programme at its first command, clocks and stores in use 0, nothing sent"
abbrev pub fresh_state : Sheet → Bundle → State
fresh_state s b = record { processors = replicate (programme_count b) fresh_processor; stamps = replicate (link_count s) none }

unfoldable pub processor_of : State → ℕ → Processor
processor_of σ k = get_or σ.processors k fresh_processor

unfoldable pub stamp_of : State → ℕ → Option ℕ
stamp_of σ l = get_or σ.stamps l none

-- the next command of processor k
unfoldable pub next : Bundle → State → ℕ → Option Command
next b σ k = get_elem? (programme_of b k) (processor_of σ k).position

-- the time that a command waits for: its message's stamp at a receive, none while that is not sent; 0 at the others
abbrev pub waits : State → Command → Option ℕ
waits σ (run t) = some 0
waits σ (send l) = some 0
waits σ (receive l) = stamp_of σ l
waits σ (release t) = some 0
waits σ (discard l) = some 0

-- the time that the message of link l is under way from processor k: to the one whose programme runs its target
unfoldable pub travels : Sheet → Bundle → ℕ → ℕ → ℕ
travels s b k l = link_time s l k (home b (run (target_of s l)))

-- the stated time of a command of processor k: a run's work, the time that a send's message is under way, a receive's unpacking; a release takes none
unfoldable pub stated : Sheet → Bundle → ℕ → Command → ℕ
stated s b k (run t) = work_of s t
stated s b k (send l) = travels s b k l
stated s b k (receive l) = s.unpacking
stated s b k (release t) = 0
stated s b k (discard l) = 0

-- what a command of the time d adds to the clock: a message is under way while its sender goes on
abbrev pub takes : Command → ℕ → ℕ
takes (run t) d = d
takes (send l) d = 0
takes (receive l) d = d
takes (release t) d = d
takes (discard l) d = d

-- the processor p after the command c of the time d, which waited for the time w
abbrev pub after : Sheet → Command → ℕ → ℕ → Processor → Processor
after s c d w p = record { clock = max p.clock w + takes c d; position = suc p.position; store = stored s c p.store }

-- the stamps after the command c, whose message, if it sends one, arrives at the time t: "send stamps the message with clock + cost"
abbrev pub posted : Command → ℕ → List (Option ℕ) → List (Option ℕ)
posted (run u) t m = m
posted (send l) t m = set m l (some t)
posted (receive l) t m = m
posted (release u) t m = m
posted (discard l) t m = m

abbrev pub moved : Sheet → State → ℕ → Command → ℕ → ℕ → State
moved s σ k c d w =
    record { processors = set σ.processors k (after s c d w (processor_of σ k)); stamps = posted c ((processor_of σ k).clock + d) σ.stamps }

-- the state after one command of processor k, where commands take the times that `time` gives; none where it cannot step, or names no programme
unfoldable pub step_in : Sheet → Bundle → (ℕ → Command → ℕ) → State → ℕ → Option State
step_in s b time σ k = then (next b σ k) (λ c. then (waits σ c) (λ w. some (moved s σ k c (time k c) w)))

-- with the stated times
unfoldable pub step : Sheet → Bundle → State → ℕ → Option State
step s b σ k = step_in s b (stated s b) σ k

abbrev pub holds_some : {X : Type 0} → Option X → Bool
holds_some none = false
holds_some (some x) = true

unfoldable pub can_step : Sheet → Bundle → State → ℕ → Bool
can_step s b σ k = holds_some (step s b σ k)

-- a stamp told as a number: 0 while the message is not sent, then one more
abbrev pub stamp_in : ℕ → Option ℕ
stamp_in zero = none
stamp_in (suc x) = some x
