-- `may_join` (src/walking.rt) keeps its contract.
use native.Mathlib.Omega.{arith}
use borrow.Author.Tests.{lt-leb}
use Rattle.search.proofs.Steps.{no_room, fits-join}
use Rattle.search.proofs.walking.may_join.Goals as goal

pub returns-then-a-v : goal.returns-then-a-v
returns-then-a-v c = fits-join c.requires.1 c.requires.2 (omega (arith, c.requires.3, c.requires.0.tasks)) c.requires.4 c.if-a-v.true c.feeds.ensures

pub returns-else-a-v : goal.returns-else-a-v
returns-else-a-v c = rw (lt-leb c.args.a.store c.args.v.limit c.if-a-v.false) (no_room c.requires.1 c.requires.2 (omega (arith, c.requires.3, c.requires.0.tasks)) c.requires.4 c.if-a-v.false)
