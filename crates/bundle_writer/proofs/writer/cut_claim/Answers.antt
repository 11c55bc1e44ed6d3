-- `bundle_writer::writer::cut_claim` meets its contract.
use mathlib.Core.Path.{◌∙◌, sym}
use Rattle.bundle_writer.proofs.writer.cut_claim.Goals as goal

pub returns-then-is_early : goal.returns-then-is_early
returns-then-is_early c = rw (sym c.is_early.ensures ∙ c.if-is_early.true)

pub returns-else-is_early : goal.returns-else-is_early
returns-else-is_early c = rw (sym c.is_early.ensures ∙ c.if-is_early.false)
