-- What the code asks of a command's byte: whether its command is one of a task or one of a link.
use Rattle.std.specs.Prelude.{ℕ, Bool, eqb}
use Rattle.folds.specs.Folds.{pick, either}
use Rattle.bundle.specs.Sizes.{short_size, long_size}
use Rattle.bundle.specs.Format.{Kind, running, sending, receiving, releasing, discarding}

-- the commands of two operand bytes
unfoldable pub is_message : ℕ → Bool
is_message c = either (eqb c 0x53) (either (eqb c 0x56) (eqb c 0x47))

unfoldable pub is_task : ℕ → Bool
is_task c = either (eqb c 0x52) (eqb c 0x46)

-- the bytes of a command
unfoldable pub size_by : ℕ → ℕ
size_by c = pick (is_message c) long_size short_size

-- the kinds of commands of a link, and of a task
pub data OfLink : Kind → Type 0 where
  sends : OfLink sending
  receives : OfLink receiving
  discards : OfLink discarding

pub data OfTask : Kind → Type 0 where
  runs : OfTask running
  releases : OfTask releasing
