-- `bundle_reader::bytes::closing` meets its contract.
use Rattle.bundle_reader.specs.Answers.{closed_of}
use borrow.Author.Tests.{le-ltb, lt-ltb}
use Rattle.bundle_reader.proofs.bytes.closing.Goals as goal

pub returns-then-past-bytes : goal.returns-then-past-bytes
unfolding closed_of
returns-then-past-bytes c = simp (c.at.ensures, lt-ltb _ _ c.if-past-bytes.true)

pub returns : goal.returns
unfolding closed_of
returns c = simp (le-ltb _ _ c.if-past-bytes.false, c.get32.ensures)
