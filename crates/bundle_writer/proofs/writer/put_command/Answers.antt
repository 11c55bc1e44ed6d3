-- `bundle::writer::put_command` meets its contract.
use Rattle.bundle_writer.proofs.Puts.{put-message, put-short}
use lib.ListN.{length-set}
use mathlib.Core.Path.{◌∙◌, sym}
use native.Mathlib.Omega.{arith}
use Rattle.bundle_writer.proofs.writer.put_command.Goals as goal

pub put16-requires : goal.put16-requires
put16-requires c = simp length-set (omega arith)

pub shape_of-out-then-is_message : goal.shape_of-out-then-is_message
shape_of-out-then-is_message c = simp length-set at c.put16.auto.s

pub returns-then-is_message : goal.returns-then-is_message
returns-then-is_message c = put-message c.args.out.now _ c.args.at c.args.command c.args.operand (omega arith) (sym c.is_message.ensures ∙ c.if-is_message.true) c.put16.ensures

pub bounds-out-at-else-is_message : goal.bounds-out-at-else-is_message
bounds-out-at-else-is_message c = simp length-set (omega arith)

pub returns-else-is_message : goal.returns-else-is_message
returns-else-is_message c = put-short c.args.out.now c.args.at c.args.command c.args.operand (omega arith) (sym c.is_message.ensures ∙ c.if-is_message.false)
