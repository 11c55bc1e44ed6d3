-- `bundle::writer::cut_inside` meets its contract.
use borrow.Author.Tests.{eq-eqb, ne_eqb}
use Rattle.bundle_writer.proofs.writer.cut_inside.Goals as goal

pub returns-then-opened-eq0 : goal.returns-then-opened-eq0
returns-then-opened-eq0 c = simp (eq-eqb _ _ c.if-opened-eq0.true)

pub returns-else-opened-eq0 : goal.returns-else-opened-eq0
returns-else-opened-eq0 c = simp (ne_eqb _ _ c.if-opened-eq0.false)
