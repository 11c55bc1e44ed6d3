-- `bundle::writer::known_fault` meets its contract.
use borrow.Author.Tests.{eq-eqb, le-leb, lt-leb, ne_eqb}
use Rattle.bundle_writer.proofs.writer.known_fault.Goals as goal

pub returns-then-opened-eq0 : goal.returns-then-opened-eq0
returns-then-opened-eq0 c = simp (eq-eqb _ _ c.if-opened-eq0.true)

pub returns-then-limit-operand : goal.returns-then-limit-operand
returns-then-limit-operand c = simp (ne_eqb _ _ c.if-opened-eq0.false, le-leb _ _ c.if-limit-operand.true)

pub returns-else-limit-operand : goal.returns-else-limit-operand
returns-else-limit-operand c = simp (ne_eqb _ _ c.if-opened-eq0.false, lt-leb _ _ c.if-limit-operand.false)
