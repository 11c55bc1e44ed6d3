-- `bundle::values::operand_at` meets its contract.
use Prim.Native.Nat.{◌%◌, ◌+◌, ℕ}
use Rattle.bundle_writer.proofs.Copying.{low_byte}
use Rattle.bundle_writer.specs.Copies.{operand_in}
use mathlib.Core.Path.{◌∙◌, ap}
use native.Mathlib.Omega.{arith}
use Rattle.bundle_writer.proofs.values.operand_at.Goals as goal

pub overflow_cast-bytes : goal.overflow_cast-bytes
overflow_cast-bytes c = omega (arith, c.type_inv.bytes c.args.at)

pub returns-then-is_message : goal.returns-then-is_message
unfolding operand_in
returns-then-is_message c = rw (← c.is_message.ensures, c.if-is_message.true) c.get16-pair.ensures

pub returns-else-is_message : goal.returns-else-is_message
unfolding operand_in
returns-else-is_message c = rw (← c.is_message.ensures, c.if-is_message.false) (ap (λ (x : ℕ). x % 256) c.get16-pair.ensures ∙ low_byte c.args.bytes.now (c.args.at + 1) (omega (arith, c.type_inv.bytes (c.args.at + 1))))
