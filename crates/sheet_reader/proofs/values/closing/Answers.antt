-- `closing` (src/values.rt) keeps its contract.
use Rattle.sheet_reader.specs.Answers.{values_closed}
use borrow.Author.Tests.{eq-eqb, ne_eqb}
use Rattle.sheet_reader.proofs.values.closing.Goals as goal

pub returns-then-links-ne0 : goal.returns-then-links-ne0
unfolding values_closed
returns-then-links-ne0 c = simp (c.at.ensures, ne_eqb _ _ c.if-links-ne0.true)

pub returns : goal.returns
unfolding values_closed
returns c = simp (eq-eqb _ _ c.if-links-ne0.false)
