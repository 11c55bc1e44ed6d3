-- `consider` (src/choosing.rt) keeps its contract.
use Rattle.search.proofs.Keeping.{not-accepted, first_found, better-found}
use borrow.Author.Rules.{rules}
use Rattle.search.proofs.choosing.consider.Goals as goal

pub returns-in_default : goal.returns-in_default
returns-in_default c = not-accepted _ _ _ _ _ c.requires.coded.0 c.requires.coded.1 c.requires.coded.2 c.judge.ensures c.in_default.is

pub preferred-requires : goal.preferred-requires
preferred-requires c = (c.requires.seen.1, search rules, search rules, c.requires.coded.2.coded _ c.in-Some-best.is, c.requires.coded.0)

pub returns-in-None : goal.returns-in-None
returns-in-None c = first_found _ _ _ _ _ c.requires.coded.0 c.requires.coded.1 c.requires.coded.2 c.judge.ensures _ c.in-Some.is c.in-None.is

pub returns-in-Some-best : goal.returns-in-Some-best
returns-in-Some-best c = better-found _ _ _ _ _ c.requires.coded.0 c.requires.coded.1 c.requires.coded.2 c.judge.ensures _ c.in-Some.is _ c.in-Some-best.is _ c.preferred.ensures
