-- `with_half` (src/lib.rt) keeps its contract.
use Rattle.adjacency.proofs.Building.{lower-half, upper-half}
use Rattle.adjacency.proofs.with_half.Goals as goal

pub returns-in-Source : goal.returns-in-Source
returns-in-Source c = upper-half c.args.x c.args.y c.in-Source.is c.requires

pub returns-in-Target : goal.returns-in-Target
returns-in-Target c = lower-half c.args.x c.args.y c.in-Target.is c.requires
