-- `message` (src/notes.rt) keeps its contract.
use Rattle.admission.specs.Notes.{message_at}
use borrow.Author.Rules.{rules}
use Rattle.admission.proofs.notes.message.Goals as goal

pub returns : goal.returns
unfolding message_at
returns c = (simp (c.from-c.ensures, c.from-l.ensures, c.get16.ensures), search rules)
