-- `preferred` (src/choosing.rt) keeps its contract.
use mathlib.Core.Path.{sym, ap}
use Rattle.better.specs.Choices.{ahead}
use Rattle.better.specs.Parts.{lent_of}
use Rattle.std.specs.declared.cmp.Ordering.{Ordering}
use Rattle.better.proofs.choosing.preferred.Goals as goal

pub returns-in-Less : goal.returns-in-Less
returns-in-Less c = sym (ap (λ (o : Ordering). lent_of (ahead o)) c.in-Less.is)

pub returns-in-Equal : goal.returns-in-Equal
returns-in-Equal c = sym (ap (λ (o : Ordering). lent_of (ahead o)) c.in-Equal.is)

pub returns-in-Greater : goal.returns-in-Greater
returns-in-Greater c = sym (ap (λ (o : Ordering). lent_of (ahead o)) c.in-Greater.is)
