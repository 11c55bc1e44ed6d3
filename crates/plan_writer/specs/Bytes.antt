-- The bytes of a schedule's bundle, part by part, as they are measured and written.
use Rattle.std.specs.Prelude.{ℕ, List, [], ◌∷◌, get_or}
use Rattle.folds.specs.Folds.{pick, gather}
use Rattle.sheet.specs.Sheet.{Sheet, link_count, source_of, target_of}
use Rattle.adjacency.specs.declared.End.{End}
use Rattle.adjacency.specs.declared.End.TheVariants.{Source, Target}
use Rattle.bundle.specs.Bundle.{Command}
use Rattle.bundle.specs.Writing.{programme_bytes}
use Rattle.planner.specs.Schedule.{Schedule, place_of, stands}
use Rattle.planner.specs.Planner.{receive_of, send_of, block_of, programme}

-- the other end of a link, and the command byte of its message, by the end at which it is met: a task sends by the links out of it, and receives by those into it
abbrev pub far_by : End → Sheet → ℕ → ℕ
far_by Source s l = target_of s l
far_by Target s l = source_of s l

abbrev pub code_of : End → ℕ
code_of Source = 0x53
code_of Target = 0x56

module _ (s : Sheet) (σ : Schedule) where
  -- how long the send of link l is, and its receive: neither is written between tasks on one processor
  unfoldable pub message_length : ℕ → ℕ
  message_length l = pick (stands σ (source_of s l) (place_of σ (target_of s l))) 0 3

  abbrev pub message_of : End → ℕ → ℕ → ℕ → List Command
  message_of Source k t l = send_of s σ k t l
  message_of Target k t l = receive_of s σ k t l

  -- the message of link l in the block of t on k
  unfoldable pub message_bytes : End → ℕ → ℕ → ℕ → List ℕ
  message_bytes e k t l = programme_bytes (message_of e k t l)

  -- "receives of its links from other processors in rising link number", and sends likewise
  unfoldable pub messages_bytes : End → ℕ → ℕ → List ℕ
  messages_bytes e k t = gather (link_count s) (message_bytes e k t)

  -- the block of t, if it stands on k
  unfoldable pub block_bytes : ℕ → ℕ → List ℕ
  block_bytes k t = programme_bytes (pick (stands σ t k) (block_of s σ k t) [])

  -- .. of the task that was placed at turn i
  unfoldable pub turn_bytes : ℕ → ℕ → List ℕ
  turn_bytes k i = block_bytes k (get_or σ.order i 0)

  -- "`50` opens a processor's programme"
  unfoldable pub open_bytes : ℕ → List ℕ
  open_bytes k = 0x50 ∷ k ∷ programme_bytes (programme s σ k)
