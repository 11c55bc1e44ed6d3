-- `bundle::kinds::size_of` meets its contract.
use Rattle.bundle.specs.Kinds.{size_by}
use Rattle.bundle.proofs.kinds.size_of.Goals as goal

pub returns-then-is_message : goal.returns-then-is_message
unfolding size_by
returns-then-is_message c = rw (← c.is_message.ensures, c.if-is_message.true)

pub returns-else-is_message : goal.returns-else-is_message
unfolding size_by
returns-else-is_message c = rw (← c.is_message.ensures, c.if-is_message.false)
